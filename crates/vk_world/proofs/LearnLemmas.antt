-- Learning from files: one after the other, and what follows from what reading gives.
use Rattle.std.proofs.Common.{◌≡◌, false, List, refl, sym}
use Rattle.std.specs.Prelude.{Result, Ok, Err, IfOk}
use Rattle.std.specs.Result.{IsErrAnd}
use Rattle.std.proofs.lemmas.Result.{err_from_is_err_and}
use Rattle.vk_spec.specs.Lists.{IsWithin}
use Rattle.vk_spec.specs.Paths.{Path}
use Rattle.vk_spec.specs.Files.{Files}
use Rattle.vk_spec.specs.Reading.{Gives}
use Rattle.vk_spec.specs.Pages as plain
use Rattle.vk_base.specs.Stops.{fault_seen, has_failed, was_out}
use Rattle.vk_base.specs.declared.memory.Memory.{Memory}
use Rattle.vk_base.specs.declared.stops.Outage.{Outage}
use Rattle.vk_base.specs.declared.stops.Outage.TheVariants as outage
use Rattle.vk_base.specs.declared.stops.Stop.{Stop}
use Rattle.vk_base.specs.declared.stops.Stop.TheVariants as stop
use Rattle.vk_catalogue.specs.Views.{or_wrong, wrong_view}
use Rattle.vk_model.specs.declared.wrongs.Wrong.{Wrong}
use Rattle.vk_files.specs.Kept.{Held}
use Rattle.vk_files.specs.Finds.{Finds}
use Rattle.vk_files.proofs.FindLemmas.{learned_here, learned_so, learned_then}
use Rattle.vk_world.specs.Learning.{Learns, Means, settled}

-- what reading gives is what is answered, also where it is refused
settled_means : {X Y : Type 0} (view : X → Y) (answer : Result X (Stop Wrong)) (read : Result Y plain.Wrong) → Gives view (fault_seen wrong_view) answer read → IfOk (settled answer) (λ x. or_wrong view x ≡ read)
settled_means view (Ok x) read gives = sym gives
settled_means view (Err (stop.Fault wrong)) read gives = sym gives
settled_means view (Err stop.Failed) read gives = tt
settled_means view (Err (stop.Memory m)) read gives = tt

settled_fails : {X F : Type 0} (answer : Result X (Stop F)) → was_out (settled answer) ≡ has_failed answer
settled_fails (Ok x) = refl
settled_fails (Err (stop.Fault refusal)) = refl
settled_fails (Err stop.Failed) = refl
settled_fails (Err (stop.Memory m)) = refl

pub learns_settled : {X Y : Type 0} {view : X → Y} {answer : Result X (Stop Wrong)} {meaning : Files → Result Y plain.Wrong} {paths : Files → List Path} {Before After : Files → Type 0} {a b : Held} (result : Result (Result X Wrong) Outage) → result ≡ settled answer
    → Finds wrong_view view answer meaning paths Before After a b → Learns result (Means (or_wrong view) meaning) paths Before After a b
learns_settled {view = view} {answer = answer} {meaning = meaning} result is one =
    rw is (record { reads = learned_so (settled_fails answer) (λ f before. (before, λ p has. has)) (λ f before after gives. (after, settled_means view answer (meaning f) gives)) one.reads })

module _ {X : Type 0} {answer : Result X Outage} {Says : Files → X → Type 0} {paths : Files → List Path} {Before After : Files → Type 0} where
  -- what needs no file
  pub learns_pure : {h : Held} → was_out answer ≡ false → ((f : Files) → Before f → After f × IfOk answer (Says f)) → Learns answer Says paths Before After h h
  learns_pure calm holds = record { reads = learned_here calm holds }

  -- memory ran out before anything was read
  pub learns_lacking : {m : Memory} {h : Held} → IsErrAnd answer (λ e. e ≡ outage.Memory m) → ((f : Files) → Before f → After f) → Learns answer Says paths Before After h h
  learns_lacking is still =
      let p = err_from_is_err_and answer is in
      rw (p.1, p.2) (record { reads = learned_here refl (λ f before. (still f before, tt)) })

  module _ {Z : Type 0} {other : Result Z Outage} {OtherSays : Files → Z → Type 0} {others : Files → List Path} {OtherBefore OtherAfter : Files → Type 0} {a b : Held} where
    -- the same said in other words, where as much was known before, and of more paths
    pub learns_so : was_out other ≡ was_out answer → ((f : Files) → OtherBefore f → Before f × IsWithin (paths f) (others f)) → ((f : Files) → OtherBefore f → After f → IfOk answer (Says f) → OtherAfter f × IfOk other (OtherSays f))
        → Learns answer Says paths Before After a b → Learns other OtherSays others OtherBefore OtherAfter a b
    learns_so same earlier later one = record { reads = learned_so same earlier later one.reads }

-- one after the other
pub learns_then : {X Z : Type 0} {x : X} {answer : Result Z Outage} {Says : Files → X → Type 0} {NextSays : Files → Z → Type 0} {paths : Files → List Path} {Before Between After : Files → Type 0} {a b c : Held}
    → Learns (Ok x) Says paths Before Between a b → Learns answer NextSays paths (λ f. Between f × Says f x) After b c → Learns answer NextSays paths Before After a c
learns_then one then = record { reads = learned_then one.reads then.reads (λ f between says. ((between, says), (λ p has. has), (λ p has. has), λ next. next)) }

-- learning stopped, so nothing more was done
pub learns_stopped : {X Z : Type 0} {s : Outage} {answer : Result Z Outage} {Says : Files → X → Type 0} {NextSays : Files → Z → Type 0} {paths : Files → List Path} {Before After NextBefore NextAfter : Files → Type 0} {a b : Held}
    → IsErrAnd answer (λ e. e ≡ s) → ((f : Files) → NextBefore f → Before f) → ((f : Files) → NextBefore f → After f → NextAfter f) → Learns {X = X} (Err s) Says paths Before After a b → Learns answer NextSays paths NextBefore NextAfter a b
learns_stopped {answer = answer} is earlier later one =
    let p = err_from_is_err_and answer is in
    rw (p.1, p.2) (record { reads = learned_so refl (λ f before. (earlier f before, λ p has. has)) (λ f before after says. (later f before after, tt)) one.reads })
