use Rattle.std.proofs.Common.{◌≡◌, ◌∙◌, ap, sym, true, refl}
use Rattle.std.proofs.lemmas.Result.{err_from_is_err_and}
use Rattle.std.proofs.lemmas.Bool.{and_parts}
use Rattle.vk_version.specs.Schemes as the
use Rattle.vk_version.specs.Texts.{all_fit, core_of, is_dotted, is_tail, numbers_in, tail_of}
use Rattle.vk_version.proofs.FaultLemmas.{fits_if-Ok}
use Rattle.vk_version.proofs.PieceLemmas.{form_fails, form_known, numbers_fail}
use Rattle.vk_version.proofs.readers.read_relaxed.Goals as goal

pub returns-in_err-core : goal.returns-in_err-core
returns-in_err-core c =
    let p = err_from_is_err_and c.from_residual.result c.from_residual.ensures.1 in
    rw (p.1, p.2) (form_fails _ c.args.text.now c.args.port c.in_err-core.ensures)

pub push_numbers-requires : goal.push_numbers-requires
push_numbers-requires c =
    let known = form_known c.args.text.now _ _ c.in_ok-core.ensures in
    let both =
    and_parts (is_dotted (core_of c.args.text.now))
    (is_tail (tail_of c.args.text.now)) known.form in
    ap is_dotted (sym known.core) ∙ both.0

pub returns-in_err-push_numbers : goal.returns-in_err-push_numbers
returns-in_err-push_numbers c =
    let known = form_known c.args.text.now _ _ c.in_ok-core.ensures in
    let bytes = sym known.core in
    let fits = rw bytes at c.in_err-push_numbers.ensures.fits in
    let p =
    err_from_is_err_and c.from_residual-in_err-push_numbers.result
    c.from_residual-in_err-push_numbers.ensures.1 in
    rw (p.1, p.2) (numbers_fail _ c.args.text.now c.args.port known.form fits)

pub with_parts-requires : goal.with_parts-requires
with_parts-requires c =
    let known = form_known c.args.text.now _ _ c.in_ok-core.ensures in
    let bytes = sym known.core in
    let fit : all_fit (numbers_in (core_of c.args.text.now)) ≡ true =
    rw bytes at (fits_if-Ok _ c.in_ok-push_numbers.ensures.fits) in
    record {
      version = record { scheme = the.relaxed; reads = rw (known.form, fit) refl };
      numbers = rw (c.in_ok-push_numbers.ensures.ok, c.new-numbers.ensures, bytes) refl;
      pre = sym known.pre_release;
    }
