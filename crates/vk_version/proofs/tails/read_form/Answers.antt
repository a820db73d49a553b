use Rattle.std.proofs.lemmas.Result.{err_from_is_err_and}
use Rattle.vk_version.specs.Texts.{is_metadata, is_relaxed}
use Rattle.vk_version.specs.Steps.{passes}
use Rattle.vk_version.proofs.PieceLemmas.{fails_whole, form_read, no_metadata_whole}
use Rattle.vk_version.proofs.tails.read_form.Goals as goal

pub returns-in_err-check_metadata : goal.returns-in_err-check_metadata
returns-in_err-check_metadata c =
    let p =
    err_from_is_err_and c.from_residual-in_err-check_metadata.result
    c.from_residual-in_err-check_metadata.ensures.1 in
    rw (p.1, p.2) (fails_whole _ (passes is_metadata c.pieces.result.2)
    (is_relaxed c.args.text.now) tt _
    (no_metadata_whole _ _ _ _ c.pieces.ensures) c.in_err-check_metadata.ensures)

pub returns : goal.returns
returns c =
    form_read c.args.text.now _ _ _ _ c.pieces.ensures c.in_ok-check_dotted.ensures
    c.in_ok-check_metadata.ensures c.in_ok-pre.ensures
