use Rattle.std.proofs.Common.{◌∙◌, refl, sym, ap}
use Rattle.std.specs.Prelude.{option_map}
use Rattle.vk_worklist.specs.Entries.{reason_of}
use Rattle.vk_check.proofs.EntryLemmas.{line_get}
use Rattle.vk_check.proofs.claims.fact_on.Goals as goal

pub returns : goal.returns
returns c = record {
  reason = reason_of (c.unwrap.result.0.now, c.unwrap.result.1.now);
  at = line_get c.args.lines.now.entries c.args.place (c.unwrap.result.0.now, c.unwrap.result.1.now) (sym c.get_index.ensures.entry ∙ ap (option_map (λ p. (p.0.now, p.1.now))) c.unwrap.ensures);
  fact = refl;
}
