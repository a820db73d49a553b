-- What a sink took, piece by piece.
use Rattle.std.proofs.Common.{◌≡◌, ◌<◌, subst, ℕ, true, false, List, [], ◌++◌, length, length-append, length-take-le, take, drop, refl, ap, sym, ◌∙◌, append_assoc, take-append-drop, arith}
use Rattle.std.specs.Prelude.{Bool, Option, Some, None, Result, Err, is_err}
use Rattle.std.proofs.lemmas.List.{append-nil}
use Rattle.std.proofs.Math.Seq.{take-append_seam}
use Rattle.std.proofs.lemmas.Bool.Decides.{nat_tests}
use Rattle.vk_spec.specs.Counts.{Counted, MayHaveRisen, Rose}
use Rattle.vk_spec.specs.Sinks.{SinkState, Puts, Taken, TookFront, Went, Sent, Stop, Sends, TookUpTo, count_taken, is_stopped, nothing}
use Rattle.vk_spec.proofs.CountLemmas.{counted_then, counted_risen, counted_rose}

pub taken_nothing : (before : Option (List ℕ)) → Taken before [] before
taken_nothing None = refl
taken_nothing (Some held) = ap Some (sym (append-nil held))

pub taken_then : (before mid now : Option (List ℕ)) (xs ys : List ℕ) → Taken before xs mid → Taken mid ys now → Taken before (xs ++ ys) now
taken_then None None now xs ys first then = then
taken_then None (Some m) now xs ys first then = (cc)
taken_then (Some held) None now xs ys first then = (cc)
taken_then (Some held) (Some m) now xs ys first then =
    let same : m ≡ held ++ xs = (cc) in
    then ∙ ap (λ l. Some (l ++ ys)) same ∙ ap Some (append_assoc held xs ys)

pub took_nothing : (before : Option (List ℕ)) (bytes : List ℕ) → TookFront before bytes bytes before
took_nothing before bytes = record { front = []; split = refl; taken = taken_nothing before }

pub took_more : {before mid now : Option (List ℕ)} {bytes rest : List ℕ} (n : ℕ) → TookFront before bytes rest mid → Taken mid (take n rest) now → TookFront before bytes (drop n rest) now
took_more {before} {mid} {now} {bytes} {rest} n so_far then = record {
  front = so_far.front ++ take n rest;
  split = so_far.split ∙ ap (λ l. so_far.front ++ l) (sym (take-append-drop n rest)) ∙ sym (append_assoc so_far.front (take n rest) (drop n rest));
  taken = taken_then before mid now so_far.front (take n rest) so_far.taken then;
}

-- where nothing is left, all was taken
pub took_all : {before now : Option (List ℕ)} {bytes : List ℕ} → TookFront before bytes [] now → Taken before bytes now
took_all {before} {now} {bytes} took = rw (took.split ∙ append-nil took.front) took.taken

-- the first part of the later bytes is, with the earlier ones, a first part of both
front_then : (before mid now : Option (List ℕ)) (xs ys rest : List ℕ) → Taken before xs mid → TookFront mid ys rest now → TookFront before (xs ++ ys) rest now
front_then before mid now xs ys rest first then = record {
  front = xs ++ then.front;
  split = ap (λ l. xs ++ l) then.split ∙ sym (append_assoc xs then.front rest);
  taken = taken_then before mid now xs then.front first then.taken;
}

went_then : (stopped : Bool) (before mid now : Option (List ℕ)) (xs ys : List ℕ) → Taken before xs mid → Went stopped mid ys now → Went stopped before (xs ++ ys) now
went_then false before mid now xs ys first then = taken_then before mid now xs ys first then
went_then true before mid now xs ys first then = (then.0, front_then before mid now xs ys then.0 first then.1)

-- nothing was sent
pub sent_nothing : (s : SinkState) → Sent [] false s s
sent_nothing s = record { taken = taken_nothing s.taken; faults = refl; room = omega arith; safe = λ _. refl }

-- one after the other
pub sent_then : {xs ys : List ℕ} {stopped : Bool} {a b c : SinkState} → Sent xs false a b → Sent ys stopped b c → Sent (xs ++ ys) stopped a c
sent_then {xs = xs} {ys = ys} {stopped = stopped} {a = a} {b = b} {c = c} one two = record {
  taken = went_then stopped a.taken b.taken c.taken xs ys one.taken two.taken;
  faults = counted_then stopped a.faults b.faults c.faults one.faults two.faults;
  room = omega (arith, one.room, two.room, length-append xs ys);
  safe = λ h. two.safe (omega (arith, h, one.room, length-append xs ys));
}

-- what comes after a stop is not sent
pub sent_stopped : {xs : List ℕ} {a b : SinkState} (ys : List ℕ) → Sent xs true a b → Sent (xs ++ ys) true a b
sent_stopped {xs = xs} ys one = record {
  taken = (one.taken.0 ++ ys, record { front = one.taken.1.front; split = ap (λ l. l ++ ys) one.taken.1.split ∙ append_assoc one.taken.1.front one.taken.0 ys; taken = one.taken.1.taken });
  faults = one.faults;
  room = omega (arith, one.room, length-append xs ys);
  safe = λ h. one.safe (omega (arith, h, length-append xs ys));
}

-- one sending
pub send_once : {bytes : List ℕ} {answer : Result (Unit {0}) Stop} {stopped : Bool} {a b : SinkState} → Sends bytes answer a b → is_err answer ≡ stopped → Sent bytes stopped a b
send_once {bytes = bytes} {a = a} {b = b} s e = subst (λ f. Sent bytes f a b) e s.sent

-- one sending more
pub send_more : {xs ys : List ℕ} {answer : Result (Unit {0}) Stop} {stopped : Bool} {a b c : SinkState} → Sends ys answer b c → Sent xs false a b → is_err answer ≡ stopped → Sent (xs ++ ys) stopped a c
send_more s x e = sent_then x (send_once s e)

-- a sending that stopped, and nothing after it
pub send_cut : {xs : List ℕ} {answer : Result (Unit {0}) Stop} {a b : SinkState} (ys : List ℕ) → Sends xs answer a b → is_err answer ≡ true → Sent (xs ++ ys) true a b
send_cut ys s e = sent_stopped ys (send_once s e)

-- a stop comes only where the sink's count may have increased
pub sent_risen : {bytes : List ℕ} {stopped : Bool} {a b : SinkState} → Sent bytes stopped a b → stopped ≡ true → MayHaveRisen a.faults b.faults
sent_risen s e = counted_risen _ _ s.faults e

-- where the sink's count rose, a call stopped
pub sent_rose : {bytes : List ℕ} {stopped : Bool} {a b : SinkState} → Sent bytes stopped a b → Rose a.faults b.faults → stopped ≡ true
sent_rose s rose = counted_rose _ _ s.faults rose

-- one call that didn't stop
pub sent_once : {piece : List ℕ} {answer : Option ℕ} {a b : SinkState} → Puts piece answer a b → is_stopped piece answer ≡ false → Sent (take (count_taken answer) piece) false a b
sent_once {a = a} {b = b} put e = record {
  taken = put.taken;
  faults = subst (λ s. Counted s a.faults b.faults) e put.faults;
  room = omega (arith, put.room, length-take-le _ _ put.within);
  safe = λ _. refl;
}

-- one call that stopped
pub sent_cut : {piece : List ℕ} {answer : Option ℕ} {a b : SinkState} → Puts piece answer a b → is_stopped piece answer ≡ true → 0 < length piece → Sent piece true a b
sent_cut {piece = piece} {answer = answer} {a = a} {b = b} put e some = record {
  taken = (drop (count_taken answer) piece, record { front = take (count_taken answer) piece; split = sym (take-append-drop (count_taken answer) piece); taken = put.taken });
  faults = subst (λ s. Counted s a.faults b.faults) e put.faults;
  room = omega (arith, put.room, put.within);
  safe = λ h. sym e ∙ put.safe (omega (arith, h, some));
}

-- bytes of which the front was sent, and then a call took nothing of the rest
pub took_up_to : (bytes front rest : List ℕ) (at : ℕ) (a b c : SinkState) → bytes ≡ front ++ rest → at ≡ length front → 0 < length rest → Sent front false a b → Puts rest (Some 0) b c → TookUpTo (Err (nothing at)) bytes a.taken c.taken
took_up_to bytes front rest at a b c split place some sent put = (
  omega (arith, place, some, ap length split, length-append front rest),
  subst (λ l. Taken a.taken l c.taken) (append-nil front ∙ sym (take-append_seam front rest) ∙ ap (take (length front)) (sym split) ∙ ap (λ n. take n bytes) (sym place)) (taken_then a.taken b.taken c.taken front [] sent.taken put.taken),
)

not_stopped : (piece : List ℕ) (n : ℕ) → (n ≡ 0 → ⊥) → is_stopped piece (Some n) ≡ false
not_stopped piece n some = grind (arith, nat_tests, some)

-- the first part was sent, and then one call took some bytes more
pub sent_more : {a b c : SinkState} (bytes front rest after : List ℕ) (n : ℕ) → bytes ≡ front ++ rest → Sent front false a b → Puts rest (Some n) b c → (n ≡ 0 → ⊥) → after ≡ drop n rest → (x : List ℕ) × (bytes ≡ x ++ after) × Sent x false a c
sent_more bytes front rest after n split sent put some left = (
  front ++ take n rest,
  split ∙ ap (λ l. front ++ l) (sym (take-append-drop n rest)) ∙ sym (append_assoc front (take n rest) (drop n rest)) ∙ ap (λ l. (front ++ take n rest) ++ l) (sym left),
  sent_then sent (sent_once put (not_stopped rest n some)),
)
