-- What is kept goes on, and through one protocol after another.
use Rattle.vk_spec.specs.Files.{Files}
use Rattle.vk_protocol.specs.Keeps.{AreTerms, Keeps}
use Rattle.vk_protocol.specs.Protocols.{Protocol, ends, asks, ◌>>=◌}

-- also after what may happen meanwhile
pub keeps_later : {A : Type 0} (M E : Files → Files → Type 0) (I : Files → Type 0) (P : A → Files → Type 0) (p : Protocol A) (f g : Files) → AreTerms M E I → M f g → Keeps M E P p f → Keeps M E P p g
keeps_later M E I P (ends x) f g terms later keeps = λ h more. keeps h (terms.more f g h later more)
keeps_later M E I P (asks call k) f g terms later keeps = λ h more. keeps h (terms.more f g h later more)

pub keeps_then : {A B : Type 0} (M E : Files → Files → Type 0) (I : Files → Type 0) (P : A → Files → Type 0) (Q : B → Files → Type 0) (p : Protocol A) (k : A → Protocol B) (f : Files)
    → AreTerms M E I → I f → ((x : A) (g : Files) → I g → P x g → Keeps M E Q (k x) g) → Keeps M E P p f → Keeps M E Q (p >>= k) f
keeps_then M E I P Q (ends x) k f terms holds more keeps = more x f holds (keeps f (terms.nothing f holds))
keeps_then M E I P Q (asks call j) k f terms holds more keeps = λ g later.
    (let step = keeps g later in (
      step.0,
      step.1,
      λ reply h does tree.
          (let one = step.2 reply h does tree in
          (one.0, keeps_then M E I P Q (j reply) k h terms (terms.own g h (terms.others f g later) one.0 tree) more one.1)),
    ))

pub keeps_more : {A : Type 0} (M E : Files → Files → Type 0) (P Q : A → Files → Type 0) (p : Protocol A) (f : Files) → ((x : A) (g : Files) → P x g → Q x g) → Keeps M E P p f → Keeps M E Q p f
keeps_more M E P Q (ends x) f more keeps = λ g later. more x g (keeps g later)
keeps_more M E P Q (asks call k) f more keeps = λ g later.
    (let step = keeps g later in
    (step.0, step.1, λ reply h does tree. ((step.2 reply h does tree).0, keeps_more M E P Q (k reply) h more (step.2 reply h does tree).1)))
