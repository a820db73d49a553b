use Rattle.vk_forms.proofs.ChoiceForms.{neither_read}
use Rattle.vk_forms.proofs.choices.OrForm.read.Goals as goal

pub returns-in-None : goal.returns-in-None
returns-in-None g c =
    let no_one = rw c.in_default.is at c.in_ok-one.ensures in
    let no_other = rw c.in-None.is at c.in_ok-other.ensures in
    neither_read (g.A.Form.prints c.args.self.now.0) (g.B.Form.prints c.args.self.now.1) (g.A.Form.is_right c.args.self.now.0) (g.B.Form.is_right c.args.self.now.1) c.args.text.now no_one no_other
