-- What is asked of a tree, as data: an end, or a call and what each reply to it leads to.
use Rattle.std.specs.Prelude.{List, [], ◌∷◌, Result, Ok, Err}
use Rattle.vk_spec.specs.Calls.{Call, Output, Answer, Refusal, refuses}

-- what a call that was done or refused tells; one that failed, or that lacked memory, tells nothing
abbrev pub Reply : Call → Type 0
Reply call = Result (Output call) Refusal

abbrev pub answer_of : (call : Call) → Reply call → Answer (Output call)
answer_of call (Ok x) = Ok x
answer_of call (Err r) = Err (refuses r)

pub data Protocol (A : Type 0) : Type 0 where
  ends : A → Protocol A
  asks : (call : Call) → (Reply call → Protocol A) → Protocol A

-- one call, and its reply
abbrev pub ask : (call : Call) → Protocol (Reply call)
ask call = asks call (λ reply. ends reply)

-- then
infixl 10 ◌>>=◌
abbrev pub ◌>>=◌ : {A B : Type 0} → Protocol A → (A → Protocol B) → Protocol B
(ends x) >>= f = f x
(asks call k) >>= f = asks call (λ reply. k reply >>= f)

-- go on unless there is a fault already
abbrev pub on_ok : {A B F : Type 0} → (A → Protocol (Result B F)) → Result A F → Protocol (Result B F)
on_ok f (Ok x) = f x
on_ok f (Err e) = ends (Err e)

-- go on with a list's members in turn, each with what the one before left
abbrev pub each : {X S F : Type 0} → (X → S → Protocol (Result S F)) → List X → S → Protocol (Result S F)
each f [] s = ends (Ok s)
each f (x ∷ xs) s = f x s >>= on_ok (each f xs)
