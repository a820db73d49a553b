-- What is left of a path's text.
use Rattle.std.specs.Prelude.{◌++◌, ◌-◌, ℕ, List, [], ◌∷◌, Option, Some, None}
use Rattle.std.specs.declared.cmp.Ordering.{Ordering}
use Rattle.std.specs.declared.cmp.Ordering.TheVariants as ordering
use Rattle.vk_base.specs.Paths.{steps_of}
use Rattle.vk_base.specs.declared.path_texts.Left.{Left}

abbrev pub left_text : Left → List ℕ
left_text l = l.bytes.now ++ steps_of l.steps ++ l.rest.now

-- joined parts that nothing stands before
abbrev pub parts_text : List ℕ → List ℕ
parts_text [] = 46 ∷ []
parts_text (b ∷ parts) = b ∷ parts

-- so many steps up, which are some, and then joined parts
abbrev pub climbing_text : ℕ → List ℕ → List ℕ
climbing_text n [] = steps_of (n - 1) ++ 46 ∷ 46 ∷ []
climbing_text n (b ∷ parts) = steps_of n ++ b ∷ parts

-- the order of an end and what another text has next
abbrev pub end_order : Option ℕ → Ordering
end_order None = ordering.Equal
end_order (Some b) = ordering.Less
