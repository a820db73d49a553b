-- Each turn keeps what is kept.
use Rattle.std.proofs.Common.{◌≡◌, inl, inr, ℕ, zero, suc, List, ap, sym, ◌∙◌, subst}
use Rattle.std.specs.Prelude.{Option, Some, slice_get}
use Rattle.std.proofs.lemmas.Bool.{cases_eq}
use Rattle.vk_spec.specs.Files.{Files}
use Rattle.vk_spec.specs.Standing.{disk_of}
use Rattle.vk_spec.specs.Calls.{Call}
use Rattle.vk_tree.specs.Trees.{IsTreeDisk}
use Rattle.vk_protocol.specs.Keeps.{AreTerms, Keeps}
use Rattle.vk_protocol.specs.Protocols.{Reply, Protocol, asks}
use Rattle.vk_protocol.specs.Turns.{AllKeep, Called, GoTogether, Left, LeftKeeps, Turn, TurnsKeep, failed, goes, lacked, replied, stopped}
use Rattle.vk_protocol.proofs.KeepLemmas.{keeps_later}

-- the call of whose turn it is, and what is left after it
own_turn : {A : Type 0} (M E : Files → Files → Type 0) (I : Files → Type 0) (P : A → Files → Type 0) (call : Call) (k : Reply call → Protocol A) (f g : Files) (next : Left A)
    → AreTerms M E I → I f → Keeps M E P (asks call k) f → Called call k f g next → E f g × IsTreeDisk (disk_of g) × LeftKeeps M E P next g
own_turn M E I P call k f g (goes _) terms holds keeps (replied reply does tree) = (let one = (keeps f (terms.nothing f holds)).2 reply g does tree in (one.0, tree, one.1))
own_turn M E I P call k f g stopped terms holds keeps (lacked reply does tree) = (((keeps f (terms.nothing f holds)).2 reply g does tree).0, tree, tt)
own_turn M E I P call k f g stopped terms holds keeps (failed left tree) = ((keeps f (terms.nothing f holds)).1 g left tree, tree, tt)

still_keeps : {A : Type 0} (M E : Files → Files → Type 0) (I : Files → Type 0) (P : A → Files → Type 0) (left : Left A) (f g : Files) → AreTerms M E I → M f g → LeftKeeps M E P left f → LeftKeeps M E P left g
still_keeps M E I P (goes p) f g terms later keeps = keeps_later M E I P p f g terms later keeps
still_keeps M E I P stopped f g terms later keeps = tt

some_is : {A : Type 0} (m n : Left A) (o : Option (Left A)) → o ≡ Some m → o ≡ Some n → m ≡ n
some_is m n o one other = (cc)

one_turn : {A : Type 0} (M E : ℕ → Files → Files → Type 0) (I : Files → Type 0) (P : ℕ → A → Files → Type 0) → GoTogether M E I
    → (f g : Files) (before after : List (Left A)) → AllKeep M E I P f before → Turn f before g after → AllKeep M E I P g after
one_turn M E I P together f g before after all turn =
    let own = own_turn (M turn.who) (E turn.who) I (P turn.who) turn.call turn.k f g turn.next (together.each turn.who) all.holds (all.keep turn.who (goes (asks turn.call turn.k)) turn.was) turn.made in
    record {
      holds = (together.each turn.who).own f g all.holds own.0 own.1;
      keep = λ w left is. elim (cases_eq w turn.who) [
        | inl same ↦ (let left_is = some_is left turn.next (slice_get after w) is (ap (slice_get after) same ∙ turn.is) in
            subst (λ l. LeftKeeps (M w) (E w) (P w) l g) (sym left_is) (subst (λ v. LeftKeeps (M v) (E v) (P v) turn.next g) (sym same) own.2))
        | inr other ↦ (still_keeps (M w) (E w) I (P w) left f g (together.each w) (together.apart turn.who w other f g all.holds own.0 own.1) (all.keep w left (sym (turn.others w other) ∙ is)))
      ];
    }

pub turns_keep : TurnsKeep
turns_keep A M E I P together zero f g before after all turns = subst (λ h. AllKeep M E I P h after) (sym turns.0) (subst (λ l. AllKeep M E I P f l) (sym turns.1) all)
turns_keep A M E I P together (suc n) f g before after all turns = turns_keep A M E I P together n turns.0 g turns.1 after (one_turn M E I P together f turns.0 before turns.1 all turns.2) turns.3
