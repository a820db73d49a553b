use Rattle.std.proofs.Common.{sym, ◌∷◌}
use Rattle.std.proofs.lemmas.List.Elements.{All-same, All-tail}
use Rattle.vk_base.specs.Paths.{IsPart}
use Rattle.vk_base.specs.Parts.{parts_in}
use Rattle.vk_base.proofs.parts.PathParts.next.Goals as goal

pub invariant_of-self : goal.invariant_of-self
invariant_of-self c =
    let rest = parts_in c.in_ok-part.rest.now in
    All-tail IsPart c.in_ok-part.part.now rest (All-same IsPart (c.in_ok-part.part.now ∷ rest) (parts_in c.self.inside.rest.now) (sym c.in_ok-part.ensures) c.self.invariant)
