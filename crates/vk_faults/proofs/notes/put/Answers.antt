use Rattle.std.proofs.Common.{◌∷◌, [], ap, sym, ◌∙◌, subst}
use Rattle.std.specs.Prelude.{is_some}
use Rattle.std.specs.BTreeMap.{is_at}
use Rattle.std.specs.Map.{lookup, keys_of}
use Rattle.std.specs.List.Sorted.{IsStrictlySortedBy}
use Rattle.vk_resolution.specs.Keys.{key_cmp}
use Rattle.vk_faults.specs.Troubles.{trouble_view}
use Rattle.vk_faults.specs.Notes.{AreKeyed, IsNoted, noted}
use Rattle.vk_faults.proofs.EntryLemmas.{note_known, note_keyed, note_new}
use Rattle.vk_faults.proofs.notes.put.Goals as goal

pub returns-then-contains_key-clause-noted : goal.returns-then-contains_key-clause-noted
returns-then-contains_key-clause-noted c =
    note_known c.args.notes.now.entries (trouble_view c.args.trouble) c.args.line c.requires.keyed
    (ap (λ k. is_some (lookup (is_at (key_cmp k)) c.args.notes.now.entries)) (sym c.requires.key) ∙ sym c.contains_key.ensures ∙ c.if-contains_key.true)

pub returns-clause-keyed : goal.returns-clause-keyed
returns-clause-keyed c =
    subst AreKeyed (sym c.in_ok-insert.ensures.entries)
    (note_keyed c.args.notes.now.entries c.args.key c.args.trouble c.args.line c.requires.key c.requires.keyed (subst (λ es. IsStrictlySortedBy key_cmp (keys_of es)) c.in_ok-insert.ensures.entries c.in_ok-insert.ensures.ordered))

pub returns-clause-noted : goal.returns-clause-noted
returns-clause-noted c =
    subst (λ es. IsNoted (trouble_view c.args.trouble ∷ []) c.args.line (noted c.args.notes.now.entries) (noted es)) (sym c.in_ok-insert.ensures.entries)
    (note_new c.args.notes.now.entries c.args.key c.args.trouble c.args.line c.requires.key c.requires.keyed (sym c.contains_key.ensures ∙ c.if-contains_key.false))
