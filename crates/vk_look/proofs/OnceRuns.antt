-- What a run of a protocol that reads no path twice leaves.
use Rattle.std.proofs.Common.{inl, inr, ◌++◌, [], ◌∷◌, List, Bool, false, refl, sym, subst}
use Rattle.std.specs.Prelude.{Result, Ok, Err}
use Rattle.std.specs.List.{Contains}
use Rattle.vk_spec.specs.Lists.{NoRepeats}
use Rattle.vk_spec.specs.Paths.{Path, Begins}
use Rattle.vk_spec.specs.States.{State, Looks, OnlyRead}
use Rattle.vk_spec.specs.Calls.{Call, Output, Answer, kind_of, read_of, piece_of, list_of, write_of, rename_of, remove_of, refuses, fails, lacks, noted, noted_by}
use Rattle.vk_spec.proofs.CallLemmas.{looks_of}
use Rattle.vk_spec.proofs.StateLemmas.{looks_nothing, looks_then}
use Rattle.vk_spec.proofs.ListLemmas.{contains_nothing, contains_first, contains_later, contains_cases}
use Rattle.vk_base.specs.Stops.{was_out, is_outage}
use Rattle.vk_base.specs.declared.stops.Outage.{Outage}
use Rattle.vk_base.specs.declared.stops.Outage.TheVariants.{Failed, Memory}
use Rattle.vk_protocol.specs.Protocols.{Protocol, Reply, answer_of, ends, asks}
use Rattle.vk_protocol.specs.Runs.{AsksOnly, Reads, Ran, Stops, StopsAt}
use Rattle.vk_protocol.proofs.RunLemmas.{reply_calm, end_calm}
use Rattle.vk_protocol.specs.Below.{ReadsBelow}
use Rattle.vk_protocol.proofs.BelowLemmas.{reads_below}
use Rattle.vk_look.specs.LookCalls.{ReadsNone, with_read, ReadsAnew, ReadOnceBelow}

module _ (place : Path) where
  -- paths at the place or below it, none twice, and none of those that were read before
  abbrev AreFresh : List Path → List Path → Type 0
  AreFresh seen asked = ((q : Path) → Contains asked q → Begins place q) × NoRepeats asked × ((q : Path) → Contains asked q → Contains seen q → ⊥)

  fresh_none : (seen : List Path) → AreFresh seen []
  fresh_none seen = ((λ q at. absurd (contains_nothing q at)), tt, λ q at was. contains_nothing q at)

  fresh_more : (seen : List Path) (p : Path) (asked : List Path) → Begins place p → (Contains seen p → ⊥) → AreFresh (p ∷ seen) asked → AreFresh seen (p ∷ asked)
  fresh_more seen p asked below new rest = (
    (λ q at. elim (contains_cases p q asked at) [ inl same ↦ subst (Begins place) same below | inr later ↦ rest.0 q later ]),
    ((λ again. rest.2 p again (contains_first p seen)), rest.1),
    λ q at was. elim (contains_cases p q asked at) [ inl same ↦ new (subst (Contains seen) (sym same) was) | inr later ↦ rest.2 q later (contains_later p q seen was) ],
  )

  fresh_one : {A : Type 0} (seen : List Path) (p : Path) (answer : Answer A) → Begins place p → (Contains seen p → ⊥) → AreFresh seen (noted p answer)
  fresh_one seen p (Ok x) below new = fresh_more seen p [] below new (fresh_none (p ∷ seen))
  fresh_one seen p (Err (refuses r)) below new = fresh_more seen p [] below new (fresh_none (p ∷ seen))
  fresh_one seen p (Err fails) below new = fresh_none seen
  fresh_one seen p (Err lacks) below new = fresh_none seen

  -- what a call reads
  call_fresh : (seen : List Path) (call : Call) (answer : Answer (Output call)) → ReadsBelow place call → ReadsNone seen call → AreFresh seen (noted_by call answer)
  call_fresh seen (kind_of p) answer below new = fresh_none seen
  call_fresh seen (read_of p limit) answer below new = fresh_one seen p answer below new
  call_fresh seen (piece_of p at most) answer below new = fresh_one seen p answer below new
  call_fresh seen (list_of p) answer below new = fresh_none seen
  call_fresh seen (write_of p bytes) answer below new = absurd below
  call_fresh seen (rename_of a b) answer below new = absurd below
  call_fresh seen (remove_of p) answer below new = absurd below

  -- and what is read after it
  rest_fresh : (seen : List Path) (call : Call) (reply : Reply call) (asked : List Path) → ReadsBelow place call → ReadsNone seen call → AreFresh (with_read call seen) asked → AreFresh seen (noted_by call (answer_of call reply) ++ asked)
  rest_fresh seen (kind_of p) reply asked below new rest = rest
  rest_fresh seen (read_of p limit) (Ok x) asked below new rest = fresh_more seen p asked below new rest
  rest_fresh seen (read_of p limit) (Err r) asked below new rest = fresh_more seen p asked below new rest
  rest_fresh seen (piece_of p at most) (Ok x) asked below new rest = fresh_more seen p asked below new rest
  rest_fresh seen (piece_of p at most) (Err r) asked below new rest = fresh_more seen p asked below new rest
  rest_fresh seen (list_of p) reply asked below new rest = rest
  rest_fresh seen (write_of p bytes) reply asked below new rest = absurd below
  rest_fresh seen (rename_of a b) reply asked below new rest = absurd below
  rest_fresh seen (remove_of p) reply asked below new rest = absurd below

  abbrev Left : List Path → Bool → State → State → Type 0
  Left seen failed a b = (asked : List Path) × Looks asked failed a b × AreFresh seen asked

  stop_left : (seen : List Path) (call : Call) (e : Outage) (a b : State) → ReadsBelow place call → ReadsNone seen call → Stops call e a b → Left seen (is_outage e) a b
  stop_left seen call Failed a b below new made = (noted_by call (Err fails), looks_of (reads_below place call below) made, call_fresh seen call (Err fails) below new)
  stop_left seen call (Memory m) a b below new (inl same) = ([], subst (λ s. Looks [] false a s) (sym same) (looks_nothing a), fresh_none seen)
  stop_left seen call (Memory m) a b below new (inr (answer, made, calm)) = (
    noted_by call answer,
    subst (λ f. Looks (noted_by call answer) f a b) calm (looks_of (reads_below place call below) made),
    call_fresh seen call answer below new,
  )

  stopped_left : {A : Type 0} (seen : List Path) (call : Call) (result : Result A Outage) (a b : State) → ReadsBelow place call → ReadsNone seen call → StopsAt call result a b → Left seen (was_out result) a b
  stopped_left seen call (Ok x) a b below new stop = absurd stop
  stopped_left seen call (Err e) a b below new stop = stop_left seen call e a b below new stop

  ran_left : {A : Type 0} (seen : List Path) (p : Protocol A) (result : Result A Outage) (a b : State) → AsksOnly (ReadsBelow place) p → ReadsAnew seen p → Ran p result a b → Left seen (was_out result) a b
  ran_left seen (ends x) result a b below anew ran = (
    [],
    subst (λ s. Looks [] (was_out result) a s) (sym ran.1) (subst (λ f. Looks [] f a a) (sym (end_calm x result ran.0)) (looks_nothing a)),
    fresh_none seen,
  )
  ran_left seen (asks call k) result a b below anew (inl stop) = stopped_left seen call result a b below.0 anew.0 stop
  ran_left seen (asks call k) result a b below anew (inr (reply, mid, made, more)) =
      let rest = ran_left (with_read call seen) (k reply) result mid b (below.1 reply) (anew.1 reply) more in
      let first = subst (λ f. Looks (noted_by call (answer_of call reply)) f a mid) (reply_calm call reply) (looks_of (reads_below place call below.0) made) in
      (noted_by call (answer_of call reply) ++ rest.0, looks_then first rest.1, rest_fresh seen call reply rest.0 below.0 anew.0 rest.2)

  pub ran_once : {A : Type 0} (p : Protocol A) (result : Result A Outage) (a b : State) → AsksOnly (ReadsBelow place) p → ReadsAnew [] p → Ran p result a b → ReadOnceBelow place (was_out result) a b
  ran_once p result a b below anew ran =
      let left = ran_left [] p result a b below anew ran in
      record { asked = left.0; looks = left.1; below = left.2.0; once = left.2.1 }

  -- nothing but reading was done
  pub once_read : (failed : Bool) (a b : State) → ReadOnceBelow place failed a b → OnlyRead failed a b
  once_read failed a b h = record { asked = h.asked; looks = h.looks }
