use Rattle.std.proofs.Common.{◌≡◌, ◌+◌, ◌-◌, ◌≤◌, [], false, length, take}
use Rattle.vk_spec.specs.Lists.{NoRepeats}
use Rattle.vk_spec.specs.Catalogues.{OnlyAsked, OnPages}
use Rattle.vk_resolution.specs.Closing.{IsClosing}
use Rattle.vk_resolution.specs.Planner.{inputs_of}
use Rattle.vk_worklist.specs.Entries.{reasons_in, facts_in}
use Rattle.vk_worklist.specs.Ticks.{ticks}
use Rattle.vk_worklist.proofs.closing.close_levels.Given as goal

abbrev pub invariant-loop-lines : goal.invariant-loop-lines
invariant-loop-lines g l = record {
  within : l.taken ≤ length l.lines.entries;
  distinct : NoRepeats (facts_in l.lines.entries);
  few : length l.lines.entries ≤ l.most;
  ticks : l.steps ≤ l.initial.steps + ticks (take l.taken (facts_in l.lines.entries));
  setting : g.S.Source.setting l.source ≡ g.S.Source.setting l.initial.source;
  asked : OnlyAsked false (g.C.Catalogue.state l.initial.cat) (g.C.Catalogue.state l.cat);
  none : l.brought.items ≡ [];
  tracks : OnPages (λ pages. g.S.Source.tracks l.source pages (take l.taken (facts_in l.lines.entries))) (g.C.Catalogue.state l.cat);
  closing : OnPages (λ pages. IsClosing (inputs_of (g.S.Source.setting l.source) pages) (reasons_in l.lines.entries) (take l.taken (facts_in l.lines.entries)) []) (g.C.Catalogue.state l.cat);
}

abbrev pub decreases-loop-lines : goal.decreases-loop-lines
decreases-loop-lines g l = (l.most + 1) - length l.lines.entries
