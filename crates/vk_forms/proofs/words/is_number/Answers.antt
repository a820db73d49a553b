use Rattle.std.proofs.Common.{◌≡◌, sym, ◌∙◌, rules}
use Rattle.std.specs.Prelude.{Some, None}
use Rattle.vk_forms.proofs.Numbers.{same_number, no_number}
use Rattle.vk_forms.proofs.words.is_number.Goals as goal

pub returns-in-Some : goal.returns-in-Some
returns-in-Some c = same_number c.in-Some.n c.args.number c.args.text.now c.in-Some.ensures.found (λ e. sym c.in-Some.is ∙ c.read_u32.ensures.known c.args.number (search rules) e)

pub returns-in-None : goal.returns-in-None
returns-in-None c = no_number c.args.number c.args.text.now (λ e. let clash : None ≡ Some c.args.number = sym c.in-None.is ∙ c.read_u32.ensures.known c.args.number (search rules) e in (cc))
