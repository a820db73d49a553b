use Rattle.std.proofs.Common.{◌≡◌, sym, ◌∙◌, true, false}
use Rattle.vk_forms.proofs.PathForms.{path_not_found, path_found, path_other}
use Rattle.vk_forms.proofs.paths.path_of.Goals as goal

pub returns-in_default : goal.returns-in_default
returns-in_default c =
    let reads = rw c.as_str.ensures at c.read.ensures in
    path_not_found c.args.text.now c.read.result reads c.in_ok-path.field-0 c.in_ok-path.ensures c.in_default.is

pub returns : goal.returns
returns c =
    let reads = rw c.as_str.ensures at c.read.ensures in
    let read = path_found c.args.text.now c.read.result reads c.in_ok-path.field-0 c.in_ok-path.ensures c.in-Some.path c.in-Some.is in
    path_other c.args.text.now c.in-Some.path read
    (λ same.
    let yes : c.is-2.result ≡ true = c.is-2.ensures.1 (c.in_ok-text.ensures ∙ same ∙ sym c.as_str-2.ensures) in
    let clash : true ≡ false = sym yes ∙ c.if-is.false in
    (cc))
