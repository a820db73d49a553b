-- Laws of protocols.
use Rattle.std.proofs.Common.{◌≡◌, List, [], ◌∷◌, ◌++◌, refl, ap, sym, ◌∙◌, map}
use Rattle.std.specs.Prelude.{Result, Ok, Err}
use Rattle.vk_spec.specs.Standing.{Disk}
use Rattle.vk_spec.specs.Calls.{Call}
use Rattle.vk_protocol.specs.Protocols.{Protocol, ends, asks, ◌>>=◌, on_ok, each}
use Rattle.vk_protocol.specs.Runs.{Tells, AsksOnly}

pub then_then : {A B C : Type 0} (m : Protocol A) (f : A → Protocol B) (g : B → Protocol C) → (m >>= f) >>= g ≡ m >>= λ x. f x >>= g
then_then (ends x) f g = refl
then_then (asks call k) f g = λ i. asks call (λ reply. then_then (k reply) f g i)

ok_then : {A B C F : Type 0} (f : A → Protocol (Result B F)) (g : B → Protocol (Result C F)) (r : Result A F) → on_ok f r >>= on_ok g ≡ on_ok (λ x. f x >>= on_ok g) r
ok_then f g (Ok x) = refl
ok_then f g (Err e) = refl

pub ok_then_ok : {A B C F : Type 0} (m : Protocol (Result A F)) (f : A → Protocol (Result B F)) (g : B → Protocol (Result C F)) → (m >>= on_ok f) >>= on_ok g ≡ m >>= on_ok (λ x. f x >>= on_ok g)
ok_then_ok m f g = then_then m (on_ok f) (on_ok g) ∙ ap (λ h. m >>= h) (λ i r. ok_then f g r i)

pub then_nothing : {A F : Type 0} (m : Protocol (Result A F)) → m >>= on_ok (λ x. ends (Ok x)) ≡ m
then_nothing (ends (Ok x)) = refl
then_nothing (ends (Err e)) = refl
then_nothing (asks call k) = λ i. asks call (λ reply. then_nothing (k reply) i)

pub each_append : {X S F : Type 0} (f : X → S → Protocol (Result S F)) (xs ys : List X) (s : S) → each f (xs ++ ys) s ≡ each f xs s >>= on_ok (each f ys)
each_append f [] ys s = refl
each_append f (x ∷ xs) ys s = ap (λ h. f x s >>= on_ok h) (λ i t. each_append f xs ys t i) ∙ sym (ok_then_ok (f x s) (each f xs) (each f ys))

pub each_map : {X Y S F : Type 0} (f : Y → S → Protocol (Result S F)) (g : X → Y) (xs : List X) (s : S) → each f (map g xs) s ≡ each (λ x. f (g x)) xs s
each_map f g [] s = refl
each_map f g (x ∷ xs) s = ap (λ h. f (g x) s >>= on_ok h) (λ i t. each_map f g xs t i)

-- ---- ends that may come

pub tells_then : {A B : Type 0} (P : A → Type 0) (Q : B → Type 0) (m : Protocol A) (f : A → Protocol B) (d : Disk) → ((x : A) → P x → Tells Q (f x) d) → Tells P m d → Tells Q (m >>= f) d
tells_then P Q (ends x) f d more h = more x h
tells_then P Q (asks call k) f d more h = λ reply may. tells_then P Q (k reply) f d more (h reply may)

pub tells_more : {A : Type 0} (P Q : A → Type 0) (m : Protocol A) (d : Disk) → ((x : A) → P x → Q x) → Tells P m d → Tells Q m d
tells_more P Q (ends x) d more h = more x h
tells_more P Q (asks call k) d more h = λ reply may. tells_more P Q (k reply) d more (h reply may)

pub only_more : {A : Type 0} (M N : Call → Type 0) (p : Protocol A) → ((call : Call) → M call → N call) → AsksOnly M p → AsksOnly N p
only_more M N (ends x) more h = tt
only_more M N (asks call k) more h = (more call h.0, λ reply. only_more M N (k reply) more (h.1 reply))

pub only_then : {A B : Type 0} (M : Call → Type 0) (m : Protocol A) (f : A → Protocol B) → AsksOnly M m → ((x : A) → AsksOnly M (f x)) → AsksOnly M (m >>= f)
only_then M (ends x) f one more = more x
only_then M (asks call k) f one more = (one.0, λ reply. only_then M (k reply) f (one.1 reply) more)

pub only_ok : {A B F : Type 0} (M : Call → Type 0) (f : A → Protocol (Result B F)) (r : Result A F) → ((x : A) → AsksOnly M (f x)) → AsksOnly M (on_ok f r)
only_ok M f (Ok x) more = more x
only_ok M f (Err e) more = tt

pub only_each : {X S F : Type 0} (M : Call → Type 0) (f : X → S → Protocol (Result S F)) (xs : List X) (s : S) → ((x : X) (t : S) → AsksOnly M (f x t)) → AsksOnly M (each f xs s)
only_each M f [] s one = tt
only_each M f (x ∷ xs) s one = only_then M (f x s) (on_ok (each f xs)) (one x s) (λ r. only_ok M (each f xs) r (λ t. only_each M f xs t one))
