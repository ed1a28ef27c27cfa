use Rattle.trio_roles.proofs.Tickets.{goes_on}
use Rattle.trio_roles.proofs.words.ticket_message.Goals as goal

pub returns-clause-limits : goal.returns-clause-limits
returns-clause-limits c = rw (c.of.ensures.tree, c.new.ensures.value, c.in_ok-items.ensures.items, c.in_ok-ticket.ensures.equal, c.in_ok-made.ensures.equal) (goes_on _ _ _ _ c.tag_term.ensures.small c.in_ok-clear.ensures.small c.item.ensures.goes_on c.requires.made)
