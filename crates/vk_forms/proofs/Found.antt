-- What is said of a value that a call may answer.
use Rattle.std.specs.Prelude.{Result, Ok, Err, IfOk}

pub if_ok_then : {X E : Type 0} {P Q : X → Type 0} (r : Result X E) → ((x : X) → P x → Q x) → IfOk r P → IfOk r Q
if_ok_then (Ok x) so all = so x all
if_ok_then (Err e) so all = tt
