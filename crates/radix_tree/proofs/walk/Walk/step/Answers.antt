use Rattle.radix_tree.proofs.{Walks.Has-here, Words.subst, Words.IsOn}
use Rattle.radix_tree.proofs.walk.Walk.step.Goals as goal

pub links-requires-clause-there : goal.links-requires-clause-there
links-requires-clause-there g c = Has-here _ (subst (IsOn c.self.inside.nodes.now.lodged) c.in-Some.is c.self.invariant)

pub value-value-requires-clause-there : goal.value-value-requires-clause-there
value-value-requires-clause-there g c = Has-here _ (subst (IsOn c.self.inside.nodes.now.lodged) c.in-Some.is c.self.invariant)
