-- What a need asks for is put behind the needs that are there, with the edges that lead to it.
use Rattle.std.specs.Prelude.{◌≡◌, ◌⊎◌, ℕ, List, [], ◌++◌, Some, slice_get}
use Rattle.std.specs.List.{Contains}
use Rattle.vk_spec.specs.Lists.{IsWithin}
use Rattle.vk_resolution.specs.Asking.{Fact}
use Rattle.vk_resolution.specs.Worklist.{Notes}

-- an edge from a place to that of one of the facts that are asked for there
pub record IsLink (place : ℕ) (asked needs : List Fact) (edge : ℕ × ℕ) : Type 0 where
  pub from : edge.0 ≡ place
  pub to : Fact
  pub at : slice_get needs edge.1 ≡ Some to
  pub asks : Contains asked to

-- each that is asked for stands among the needs, those that are new behind the others, and an edge leads to each
pub record Links (place : ℕ) (asked old new : List Fact) (before after : List (ℕ × ℕ)) : Type 0 where
  pub notes : Notes [] asked old new
  pub more : List Fact
  pub kept : new ≡ old ++ more
  pub stay : IsWithin before after
  pub sound : (edge : ℕ × ℕ) → Contains after edge → Contains before edge ⊎ IsLink place asked new edge
  pub complete : (x : Fact) → Contains asked x → (n : ℕ) × (slice_get new n ≡ Some x) × Contains after (place, n)
