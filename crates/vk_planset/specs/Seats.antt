-- What belongs to each planned instance.
use Rattle.std.specs.Prelude.{◌≡◌, ◌<◌, ◌==◌, ℕ, List, [], ◌∷◌, map, flat_map, length, Option, Some, None, slice_get, bytes_eq, if◌then◌else◌}
use Rattle.vk_spec.specs.Manifests.{default}
use Rattle.vk_spec.specs.Settings.{Instance}
use Rattle.vk_resolution.specs.Asking.{Fact, need, floor, visit}
use Rattle.vk_base.specs.FeatureViews.{feature_view}
use Rattle.vk_planset.specs.Members.{HasMore, HaveSame}
use Rattle.vk_planset.specs.Places.{place_of, link_of}
use Rattle.vk_planset.specs.declared.seats.Seat.{Seat}

-- the features of a seat, in any order
abbrev pub features_in : Seat → List (List ℕ)
features_in s = map feature_view s.features.items

-- those of a seat, if there is one
abbrev pub features_of_seat : Option Seat → List (List ℕ)
features_of_seat None = []
features_of_seat (Some s) = features_in s

-- the features at a place
abbrev pub features_at : List Seat → ℕ → List (List ℕ)
features_at seats p = features_of_seat (slice_get seats p)

-- the needs of a seat, if there is one
abbrev pub needs_of_seat : Option Seat → List ℕ
needs_of_seat None = []
needs_of_seat (Some s) = s.needs.items

-- the needs at a place
abbrev pub needs_at : List Seat → ℕ → List ℕ
needs_at seats p = needs_of_seat (slice_get seats p)

-- what is listed of a needed feature
abbrev pub listed : List ℕ → List (List ℕ)
listed f = if bytes_eq f default then [] else f ∷ []

-- the feature of a need
abbrev pub feature_of : Fact → Option (List ℕ)
feature_of (need who f) = Some f
feature_of (floor p a) = None
feature_of (visit i f a) = None

-- what is listed of a feature, if there is one
abbrev pub listed_in : Option (List ℕ) → List (List ℕ)
listed_in None = []
listed_in (Some f) = listed f

-- what belongs to one of two places
abbrev pub at_place : {X : Type 0} → ℕ → ℕ → List X → List X
at_place p place xs = if p == place then xs else []

-- what belongs to a place, where one is given
abbrev pub at_given : {X : Type 0} → ℕ → Option ℕ → List X → List X
at_given p None xs = []
at_given p (Some place) xs = at_place p place xs

-- where a link leads that comes from a place
abbrev pub at_link : ℕ → Option (ℕ × ℕ) → List ℕ
at_link p None = []
at_link p (Some pair) = at_place p pair.0 (pair.1 ∷ [])

-- the features of the needs of a place
abbrev pub seated_features : List Instance → List Fact → ℕ → List (List ℕ)
seated_features order needs p = flat_map (λ x. at_given p (place_of order x) (listed_in (feature_of x))) needs

-- where the edges lead that come from needs of a place
abbrev pub seated_needs : List (Option ℕ) → List (ℕ × ℕ) → ℕ → List ℕ
seated_needs places edges p = flat_map (λ e. at_link p (link_of places e)) edges

-- at each place, the features and the needs that belong there are more
pub record HaveMore (features : ℕ → List (List ℕ)) (needs : ℕ → List ℕ) (old new : List Seat) : Type 0 where
  pub as_long : length new ≡ length old
  pub features_more : (p : ℕ) → p < length old → HasMore (features_at old p) (features p) (features_at new p)
  pub needs_more : (p : ℕ) → p < length old → HasMore (needs_at old p) (needs p) (needs_at new p)

-- at each of so many places, the features and the needs that belong there
pub record AreSeats (count : ℕ) (features : ℕ → List (List ℕ)) (needs : ℕ → List ℕ) (seats : List Seat) : Type 0 where
  pub as_many : length seats ≡ count
  pub features_same : (p : ℕ) → p < count → HaveSame (features_at seats p) (features p)
  pub needs_same : (p : ℕ) → p < count → HaveSame (needs_at seats p) (needs p)
