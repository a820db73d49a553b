use Rattle.std.proofs.Common.{codes, sym, ◌∙◌}
use Rattle.std.specs.Prelude.{bytes_eq}
use Rattle.std.proofs.lemmas.Bool.Decides.{not_from_Decides}
use Rattle.std.proofs.lemmas.Slice.Eq.{bytes_eq-Decides}
use Rattle.vk_forms.proofs.PathForms.{place_other}
use Rattle.vk_forms.proofs.paths.PlaceForm.read.Goals as goal

pub returns : goal.returns
returns c =
    let place = rw c.in-Some.is at c.in_ok-place.ensures in
    let slash = rw c.as_bytes.ensures at c.begins_with_slash.ensures in
    place_other c.args.text.now c.in-Some.place (not_from_Decides (bytes_eq c.args.text.now (codes "-")) (bytes_eq-Decides c.args.text.now (codes "-")) (sym c.if-eq.ensures)) place.0 place.1 (sym slash ∙ c.if-begins_with_slash.false)
