use Rattle.std.proofs.Common.{◌≡◌, ◌++◌, ◌+◌, ◌-◌, ◌≤◌, List, [], false, length, take}
use Rattle.vk_spec.specs.Lists.{NoRepeats}
use Rattle.vk_spec.specs.Catalogues.{OnlyAsked, OnPages}
use Rattle.vk_resolution.specs.Closing.{IsClosing}
use Rattle.vk_resolution.specs.Planner.{inputs_of}
use Rattle.vk_model.specs.declared.facts.Fact.{Fact}
use Rattle.vk_model.specs.declared.reasons.Cause.{Cause}
use Rattle.vk_worklist.specs.Entries.{reasons_in, facts_in}
use Rattle.vk_worklist.specs.Ticks.{ticks}
use Rattle.vk_worklist.proofs.levels.take_up_level.Given as goal

abbrev pub invariant-loop-taken : goal.invariant-loop-taken
invariant-loop-taken g l = record {
  fresh : List (Fact × Cause);
  split : l.lines.entries ≡ l.initial.lines.entries ++ fresh;
  within : l.taken ≤ length l.initial.lines.entries;
  distinct : NoRepeats (facts_in l.lines.entries);
  few : length l.lines.entries ≤ l.most;
  ticks : l.steps + ticks (take l.fn.from (facts_in l.initial.lines.entries)) ≤ l.initial.steps + ticks (take l.taken (facts_in l.initial.lines.entries));
  setting : g.S.Source.setting l.source ≡ g.S.Source.setting l.initial.source;
  asked : OnlyAsked false (g.C.Catalogue.state l.initial.cat) (g.C.Catalogue.state l.cat);
  none : l.brought.items ≡ [];
  tracks : OnPages (λ pages. g.S.Source.tracks l.source pages (take l.taken (facts_in l.initial.lines.entries))) (g.C.Catalogue.state l.cat);
  closing : OnPages (λ pages. IsClosing (inputs_of (g.S.Source.setting l.source) pages) (reasons_in l.initial.lines.entries) (take l.taken (facts_in l.initial.lines.entries)) (reasons_in fresh)) (g.C.Catalogue.state l.cat);
}

abbrev pub decreases-loop-taken : goal.decreases-loop-taken
decreases-loop-taken g l = length l.initial.lines.entries - l.taken
