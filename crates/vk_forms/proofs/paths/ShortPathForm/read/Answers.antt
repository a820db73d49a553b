use Rattle.std.specs.Prelude.{option_map}
use Rattle.vk_forms.proofs.Found.{if_ok_then}
use Rattle.vk_forms.proofs.PathForms.{token_path}
use Rattle.vk_forms.proofs.paths.ShortPathForm.read.Goals as goal

pub returns-in-Some : goal.returns-in-Some
returns-in-Some c =
    let text = rw c.in-Some.is at c.in_ok-text.ensures in
    if_ok_then c.path_of.result (λ found read. token_path c.args.text.now c.in-Some.text text.0 text.1 (option_map (λ p. p) found) read) c.path_of.ensures
