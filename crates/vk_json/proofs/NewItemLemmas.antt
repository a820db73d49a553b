-- The keys of the items that were read.
use Rattle.std.proofs.Common.{◌≡◌, List, [], ◌∷◌, ◌++◌, map, ap, sym, ◌∙◌}
use Rattle.std.proofs.lemmas.List.{map-append}

-- one more item, and one more key
pub keys_grow : {R A K : Type 0} (plain : R → A) (key : A → K) (read : List R) (item : R)
    {old new : List K} → old ≡ map key (map plain read) → new ≡ old ++ key (plain item) ∷ []
    → new ≡ map key (map plain (read ++ item ∷ []))
keys_grow plain key read item known noted =
    noted ∙ ap (λ keys. keys ++ key (plain item) ∷ []) known
    ∙ sym (ap (map key) (map-append plain read (item ∷ []))
    ∙ map-append key (map plain read) (plain item ∷ []))
