use Rattle.node_desk.proofs.desk.Desk.suits.Goals as goal

pub returns-then-has_keys : goal.returns-then-has_keys
returns-then-has_keys g c =
    let keys = c.has_keys.ensures.0 c.if-has_keys.true in
    let unused = rw (c.list.ensures.value, c.issued_by.ensures) at c.is_unused.ensures in
    rw (← c.self.view_is) (record { suits = (λ h. (keys, unused.0 h), λ h. unused.1 h.1) })
