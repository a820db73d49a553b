use Rattle.std.proofs.Common.{◌≡◌, ◌∙◌, ◌∷◌, ◌++◌, [], sym, ap, subst}
use Rattle.std.specs.Prelude.{Some, is_some, option_map}
use Rattle.vk_choices.specs.Rows.{row_of, in_row, listed_of}
use Rattle.vk_choices.proofs.RowLemmas.{IsWritten, one_more}
use Rattle.vk_choices.proofs.asks.add_asked.Goals as goal

pub returns-in_ok-push-in-Some : goal.returns-in_ok-push-in-Some
returns-in_ok-push-in-Some c =
    let row : row_of c.args.rows.now.entries c.args.port.now ≡ Some c.in-Some.asks.now = sym c.get_mut.ensures.value ∙ ap (option_map (λ r. r.now)) c.in-Some.is in
    let pushed : c.push.new.self ≡ listed_of c.args.rows.now.entries c.args.port.now ++ c.args.asked ∷ [] = c.in_ok-push-in-Some.ensures.ok ∙ ap (λ o. in_row o ++ c.args.asked ∷ []) (sym row) in
    one_more c.args.rows.now.entries (c.get_mut.follows.lender c.push.new.self).entries c.args.port.now c.args.asked
    (subst (λ l. IsWritten c.args.rows.now.entries c.args.port.now l (c.get_mut.follows.lender c.push.new.self).entries) pushed ((c.get_mut.follows.holds c.push.new.self).3 (ap is_some row)).0)
