use Rattle.std.proofs.Common.{◌≡◌, ◌∙◌, ◌∷◌, ◌++◌, [], sym, ap, subst, rules}
use Rattle.vk_choices.specs.Rows.{in_row, listed_of}
use Rattle.vk_choices.proofs.RowLemmas.{IsWritten, one_more}
use Rattle.vk_choices.proofs.asks.begin_row.Goals as goal

pub returns : goal.returns
returns c =
    let port : c.in_ok-clone.field-0 ≡ c.args.port.now = search rules in
    let pushed : c.push.new.self ≡ c.args.asked ∷ [] = search rules in
    let row : c.push.new.self ≡ listed_of c.args.rows.now.entries c.args.port.now ++ c.args.asked ∷ [] = pushed ∙ ap (λ o. in_row o ++ c.args.asked ∷ []) (sym c.requires) in
    let at_port : IsWritten c.args.rows.now.entries c.args.port.now c.push.new.self c.insert.new.self.entries = subst (λ k. IsWritten c.args.rows.now.entries k c.push.new.self c.insert.new.self.entries) port c.in_ok-insert.ensures.updates.0 in
    one_more c.args.rows.now.entries c.insert.new.self.entries c.args.port.now c.args.asked (subst (λ l. IsWritten c.args.rows.now.entries c.args.port.now l c.insert.new.self.entries) row at_port)
