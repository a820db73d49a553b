use Rattle.std.proofs.Common.{◌∷◌, [], sym, ◌∙◌, subst, append_assoc}
use Rattle.std.specs.Str.{IsUtf8}
use Rattle.vk_forms.proofs.PairForms.{same_pair}
use Rattle.vk_forms.proofs.lines.next_line.Goals as goal

pub returns-in-Err : goal.returns-in-Err
returns-in-Err c line more is e =
    let same = same_pair 10 line c.in_ok-line.line.now more c.in_ok-line.rest.now is.whole c.in_ok-line.ensures.1 (sym (append_assoc line (10 ∷ []) more) ∙ sym e ∙ c.in_ok-line.ensures.0) in
    c.in-Err.ensures.cases.0 (subst IsUtf8 same.0 is.utf8)
