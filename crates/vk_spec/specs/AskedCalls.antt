-- Calls that only ask something outside, and what they answer, whatever is asked: a tree, a catalogue.
use Rattle.std.specs.Prelude.{Bool, false, Option, Result, Ok, Err}
use Rattle.vk_spec.specs.Reading.{Gives}

-- the call failed outside
abbrev pub stopped_by : {X E : Type 0} → (E → Bool) → Result X E → Bool
stopped_by failed (Ok x) = false
stopped_by failed (Err e) = failed e

-- a way of asking: what only asking leaves of a state (`Only`), and what is known of that which is asked, where it tells it (`On`); nothing asked, one after the other, and facts that carry over
pub record IsAsking {S W : Type 0} (Only : Bool → S → S → Type 0) (On : (W → Type 0) → S → Type 0) : Type 1 where
  pub nothing : (s : S) → Only false s s
  pub then : {failed : Bool} {a b c : S} → Only false a b → Only failed b c → Only failed a c
  pub each : (P : W → Type 0) (s : S) → ((w : W) → P w) → On P s
  pub both : (P Q R : W → Type 0) (s : S) → ((w : W) → P w → Q w → R w) → On P s → On Q s → On R s
  pub back : (P : W → Type 0) {failed : Bool} {a b : S} → Only failed a b → On P b → On P a

-- nothing but asking was done; and where what is asked tells itself, the answer is what it gives
pub record AnswersAs {S W X Y E F : Type 0} (Only : Bool → S → S → Type 0) (On : (W → Type 0) → S → Type 0) (failed : E → Bool) (fault : E → Option F) (view : X → Y) (answer : Result X E) (meaning : W → Result Y F) (before after : S) : Type 0 where
  pub only : Only (stopped_by failed answer) before after
  pub content : On (λ w. Gives view fault answer (meaning w)) before
