use Rattle.std.proofs.Common.{◌≡◌, ◌+◌, ◌-◌, ◌≤◌, [], false, length, take}
use Rattle.vk_spec.specs.Catalogues.{OnlyAsked, OnPages}
use Rattle.vk_resolution.specs.Planner.{inputs_of}
use Rattle.vk_worklist.specs.Entries.{reasons_in, facts_in}
use Rattle.vk_worklist.specs.Ticks.{ticks}
use Rattle.vk_check.specs.Certifying.{IsCertified}
use Rattle.vk_check.proofs.certifying.certify_lines.Given as goal

abbrev pub invariant-loop-place : goal.invariant-loop-place
invariant-loop-place g l = record {
  within : l.place ≤ length l.lines.entries;
  ticks : l.steps ≤ l.initial.steps + ticks (take l.place (facts_in l.lines.entries));
  setting : g.S.Source.setting l.source ≡ g.S.Source.setting l.initial.source;
  asked : OnlyAsked false (g.C.Catalogue.state l.initial.cat) (g.C.Catalogue.state l.cat);
  none : l.brought.items ≡ [];
  long : length l.marks.items ≡ length l.lines.entries;
  tracks : OnPages (λ pages. g.S.Source.tracks l.source pages (take l.place (facts_in l.lines.entries))) (g.C.Catalogue.state l.cat);
  certified : OnPages (λ pages. IsCertified (inputs_of (g.S.Source.setting l.source) pages) (reasons_in l.lines.entries) l.place l.marks.items) (g.C.Catalogue.state l.cat);
}

abbrev pub decreases-loop-place : goal.decreases-loop-place
decreases-loop-place g l = length l.lines.entries - l.place
