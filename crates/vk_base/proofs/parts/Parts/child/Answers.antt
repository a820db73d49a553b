use Rattle.std.proofs.Common.{◌≡◌, ◌++◌, [], ◌∷◌, ap, ◌∙◌}
use Rattle.std.specs.Prelude.{string_bytes}
use Rattle.std.proofs.lemmas.List.Elements.{All-same, All-push}
use Rattle.vk_base.specs.Paths.{IsPart}
use Rattle.vk_base.specs.Parts.{parts_in}
use Rattle.vk_base.proofs.PartLemmas.{one_part}
use Rattle.vk_base.proofs.parts.Parts.child.Goals as goal

made : (c : goal.In_ok-both) → parts_in (string_bytes c.in_ok-both.field-0) ≡ parts_in (string_bytes c.self.inside.joined) ++ c.args.part.now ∷ []
made c =
    c.in_ok-both.ensures
    ∙ ap (λ t. parts_in t ++ parts_in c.args.part.now) c.as_str.ensures.value
    ∙ ap (λ ps. parts_in (string_bytes c.self.inside.joined) ++ ps) (one_part c.args.part.now c.requires)

pub invariant_of-result : goal.invariant_of-result
invariant_of-result c =
    let parts = parts_in (string_bytes c.self.inside.joined) in
    All-same IsPart (parts_in (string_bytes c.in_ok-both.field-0)) (parts ++ c.args.part.now ∷ []) (made c) (All-push IsPart parts c.args.part.now c.self.invariant c.requires)

pub returns : goal.returns
returns c = made c ∙ ap (λ ps. ps ++ c.args.part.now ∷ []) c.self.view_is
