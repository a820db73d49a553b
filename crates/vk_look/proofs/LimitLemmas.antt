-- A look passes no limit but that of bytes, whatever is replied.
use Rattle.std.proofs.Common.{inl, inr, ℕ, List, refl, sym, subst}
use Rattle.std.specs.Prelude.{Option, Some, None, Result, Ok, Err}
use Rattle.std.specs.Str.{bytes_eq}
use Rattle.sha2.specs.Sha256.{sha256}
use Rattle.vk_spec.specs.Paths.{Path}
use Rattle.vk_spec.specs.States.{State}
use Rattle.vk_spec.specs.Calls.{Kind, is_file, is_folder, is_absent, Refusal}
use Rattle.vk_base.specs.declared.limits.Limit.TheVariants.{Bytes}
use Rattle.vk_walk.specs.Walks.{Limit}
use Rattle.vk_walk.specs.Walked.{walk_limits}
use Rattle.vk_walk.specs.WalkProtocol.{walk_of}
use Rattle.vk_protocol.specs.Protocols.{Protocol, ends, asks, each, ◌>>=◌}
use Rattle.vk_protocol.specs.Runs.{Ran}
use Rattle.vk_entry.specs.Packages.{File}
use Rattle.vk_entry.specs.Contents.{Content}
use Rattle.vk_entry.specs.Differences.{difference_of}
use Rattle.vk_entry.specs.declared.differences.Difference.{Difference}
use Rattle.vk_look.specs.LookIs.{Wanted, places_of}
use Rattle.vk_look.specs.Looks.{Looked, IsByBytes, damaged, look_of, look_stands, look_kept, look_contents, look_listed, look_compared, look_found, look_files, list_told, look_file, keeps, no_files, looked}
use Rattle.vk_look.specs.LookCalls.{ComesTo}
use Rattle.vk_look.specs.declared.answers.Harm.{Harm}
use Rattle.vk_look.specs.declared.answers.Harm.TheVariants.{Text}
use Rattle.vk_look.specs.declared.answers.Look.TheVariants.{Collision}
use Rattle.vk_look.proofs.PlaceTests.{if_case}

comes_then : {A B : Type 0} (Q : B → Type 0) (m : Protocol A) (f : A → Protocol B) → ((x : A) → ComesTo Q (f x)) → ComesTo Q (m >>= f)
comes_then Q (ends x) f more = more x
comes_then Q (asks call k) f more = λ reply. comes_then Q (k reply) f more

pub ran_comes : {A : Type 0} (Q : A → Type 0) (p : Protocol A) (x : A) (a b : State) → ComesTo Q p → Ran p (Ok x) a b → Q x
ran_comes Q (ends y) x a b comes ran = subst Q (sym ran.0) comes
ran_comes Q (asks call k) x a b comes (inl stop) = absurd stop
ran_comes Q (asks call k) x a b comes (inr (reply, mid, made, more)) = ran_comes Q (k reply) x mid b (comes reply) more

module _ (w : Wanted) where
  by_looked : (kept : List ℕ) (r : Result (Option (List File)) Harm) → IsByBytes w.most (looked w kept r)
  by_looked kept (Err harm) = tt
  by_looked kept (Ok (Some files)) = tt
  by_looked kept (Ok None) = if_case (IsByBytes w.most) (bytes_eq kept w.text) (Err (Bytes w.most)) (Ok (Collision kept)) (λ e. refl) (λ e. tt)

  by_files : (kept : List ℕ) (cs : List Content) → ComesTo (IsByBytes w.most) (look_files w kept cs)
  by_files kept cs = comes_then (IsByBytes w.most) (each (look_file w.entry) cs (no_files (keeps w kept cs))) (λ r. ends (looked w kept r)) (by_looked kept)

  by_compared : (kept : List ℕ) (cs : List Content) (o : Option Difference) → ComesTo (IsByBytes w.most) (look_compared w kept cs o)
  by_compared kept cs (Some how) = tt
  by_compared kept cs None = by_files kept cs

  by_found : (kept : List ℕ) (cs : List Content) (r : Result (List Path) Limit) → ComesTo (IsByBytes w.most) (look_found w kept cs r)
  by_found kept cs (Err l) = tt
  by_found kept cs (Ok found) = by_compared kept cs (difference_of found (places_of w.entry cs))

  by_listed : (kept : List ℕ) (o : Option (List Content)) → ComesTo (IsByBytes w.most) (look_listed w kept o)
  by_listed kept None = tt
  by_listed kept (Some cs) = comes_then (IsByBytes w.most) (walk_of walk_limits w.entry) (look_found w kept cs) (by_found kept cs)

  by_kept : (r : Result (List ℕ) Refusal) → ComesTo (IsByBytes w.most) (look_kept w r)
  by_kept (Err r) = tt
  by_kept (Ok kept) = if_case (ComesTo (IsByBytes w.most)) (bytes_eq (sha256 kept) w.hash) (look_contents w kept) (damaged Text) (λ e reply. by_listed kept (list_told reply)) (λ e. tt)

  by_stands : (r : Result Kind Refusal) → ComesTo (IsByBytes w.most) (look_stands w r)
  by_stands (Ok is_file) = tt
  by_stands (Ok is_folder) = λ reply. by_kept reply
  by_stands (Ok is_absent) = tt
  by_stands (Err r) = tt

  pub look_by_bytes : ComesTo (IsByBytes w.most) (look_of w)
  unfolding look_of
  look_by_bytes = λ reply. by_stands reply

  pub ran_by_bytes : (l : Looked) (a b : State) → Ran (look_of w) (Ok l) a b → IsByBytes w.most l
  ran_by_bytes l a b ran = ran_comes (IsByBytes w.most) (look_of w) l a b look_by_bytes ran
