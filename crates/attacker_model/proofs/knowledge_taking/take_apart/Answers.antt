use Rattle.attacker_model.proofs.KnowledgeLooks.{keeps_differ, keeps_first, keeps_taking, leaves_less}
use Rattle.attacker_model.proofs.knowledge_taking.take_apart.Goals as goal

pub loop-next-smaller : goal.loop-next-smaller
loop-next-smaller c = leaves_less _ _ _ _ _ _ c.in-Some.ensures.items c.in_ok-look_at.ensures.looked

pub loop-next-preserved : goal.loop-next-preserved
loop-next-preserved c = record {
  taking = keeps_taking _ _ _ _ _ _ _ c.in-Some.ensures.items c.loop-next.invariant.taking c.in_ok-look_at.ensures.looked;
  differ = keeps_differ _ _ _ _ _ c.loop-next.invariant.differ c.in_ok-look_at.ensures.looked;
  kept = keeps_first _ _ _ _ _ _ c.loop-next.invariant.kept c.in_ok-look_at.ensures.looked;
}
