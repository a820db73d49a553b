use Rattle.std.proofs.Common.{◌+◌, ◌≤◌, false, length}
use Rattle.vk_spec.specs.Catalogues.{OnPages, OnlyAsked}
use Rattle.vk_planned.specs.Followed.{IsTakenUp}
use Rattle.vk_planned.proofs.planning.follow.Given as goal

abbrev pub invariant-loop-place : goal.invariant-loop-place
invariant-loop-place g l = record {
  within : l.place ≤ length l.planned.needs.keys;
  ticks : l.steps ≤ l.initial.steps + l.place;
  asked : OnlyAsked false (g.C.Catalogue.state l.initial.cat) (g.C.Catalogue.state l.cat);
  taken : OnPages (IsTakenUp l.basis l.place l.planned) (g.C.Catalogue.state l.initial.cat);
}
