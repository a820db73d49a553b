-- The builds of a plan, item by item.
use Rattle.std.proofs.Common.{◌≡◌, ◌<◌, ◌++◌, ◌∷◌, ◌+◌, ℕ, zero, suc, List, [], map, length, take, drop, get_or, refl, sym, ap, ◌∙◌, subst, inl, inr, arith}
use Rattle.std.specs.Prelude.{slice_get, Option, Some, None, option_map, Ok, Err}
use Rattle.std.specs.List.{Contains, zip}
use Rattle.std.proofs.Math.Seq.{drop-cons, take-length}
use Rattle.std.proofs.lemmas.List.{map-append, take_more, drop_all, take-append-drop}
use Rattle.std.proofs.lemmas.List.Elements.{All-append, All-cons, All-contains, All-nil, Contains-append_cases}
use Rattle.std.proofs.lemmas.Option.{slice_get-map}
use Rattle.vk_spec.specs.Lists.{NoRepeats}
use Rattle.vk_spec.specs.Standing.{Disk}
use Rattle.vk_spec.proofs.ListLemmas.{contains_nothing, contains_cases}
use Rattle.vk_resolution.specs.Keys.{in_order}
use Rattle.vk_resolution.proofs.Members.{map_contains}
use Rattle.vk_base.specs.declared.limits.Limit.{Limit}
use Rattle.vk_tree.specs.Trees.{IsTreeDisk}
use Rattle.vk_folder.specs.Folders.{FolderIs}
use Rattle.vk_abi.specs.Nodes.{Node, node, nodes_of, instance_of, file_digest, IsRightNode}
use Rattle.vk_abi.specs.Plans.{Shared, Placed, Pair, pair_of, pair_view, own_of, node_key, at_places, AreNodesFrom, HasItsFeatures, HaveTheirFeatures, IsFine, IsFirstLimit, AreOfRightNodes, AreTexts}
use Rattle.vk_abi.specs.Written.{pair_by, PairTold, Progress}
use Rattle.vk_abi.specs.declared.plans.AbiPair.{AbiPair}
use Rattle.vk_abi.proofs.PlanLemmas.{AreAt, written_is}
use Rattle.vk_abi.proofs.RightNodes.{right_node}

-- ---- lists side by side

pub zip_get : {X Y Z : Type 0} (f : X → Y) (xs : List X) (zs : List Z) (k : ℕ) (x : X) (z : Z) → k < length xs → length zs ≡ length xs
    → get_or (zip (map f xs) zs) k (f x, z) ≡ (f (get_or xs k x), get_or zs k z)
zip_get f [] zs k x z within same = absurd (omega (arith, within))
zip_get f (a ∷ xs) [] k x z within same = absurd (omega (arith, same))
zip_get f (a ∷ xs) (b ∷ zs) zero x z within same = refl
zip_get f (a ∷ xs) (b ∷ zs) (suc k) x z within same = zip_get f xs zs k x z (omega (arith, within)) (omega (arith, same))

pub zip_length : {X Y Z : Type 0} (f : X → Y) (xs : List X) (zs : List Z) → length zs ≡ length xs → length (zip (map f xs) zs) ≡ length xs
zip_length f [] zs same = refl
zip_length f (a ∷ xs) [] same = absurd (omega (arith, same))
zip_length f (a ∷ xs) (b ∷ zs) same = ap suc (zip_length f xs zs (omega (arith, same)))

-- ---- instances, place by place

get_take : {X : Type 0} (xs : List X) (k n : ℕ) (y : X) → slice_get (take k xs) n ≡ Some y → slice_get xs n ≡ Some y
get_take [] zero n y e = e
get_take [] (suc k) n y e = e
get_take (x ∷ xs) zero n y e = (cc)
get_take (x ∷ xs) (suc k) zero y e = e
get_take (x ∷ xs) (suc k) (suc n) y e = get_take xs k n y e

some_map : {X Y : Type 0} (f : X → Y) (o : Option X) (x : X) → o ≡ Some x → option_map f o ≡ Some (f x)
some_map f o x e = ap (option_map f) e

map_some : {X Y : Type 0} (f : X → Y) (o p : Option X) (y : Y) → ((x : X) → o ≡ Some x → p ≡ Some x) → option_map f o ≡ Some y → option_map f p ≡ Some y
map_some f None p y same e = (cc)
map_some f (Some x) p y same e = ap (option_map f) (same x refl) ∙ e

are_at : (plan : List Placed) (k : ℕ) (nodes : List Node) → map instance_of nodes ≡ map (λ x. x.0.instance) (take k plan) → AreAt (map (λ x. x.0.instance) plan) nodes
are_at plan k nodes same n m e =
    let there : option_map (λ x. x.0.instance) (slice_get (take k plan) n) ≡ Some (instance_of m) =
    sym (slice_get-map (λ x. x.0.instance) (take k plan) n) ∙ ap (λ is. slice_get is n) (sym same) ∙ slice_get-map instance_of nodes n ∙ some_map instance_of (slice_get nodes n) m e in
    slice_get-map (λ x. x.0.instance) plan n ∙ map_some (λ x. x.0.instance) (slice_get (take k plan) n) (slice_get plan n) (instance_of m) (λ x g. get_take plan k n x g) there

-- ---- the steps

pub begun : (shared : Shared) (d : Disk) (plan : List Placed) → Progress shared d plan 0 []
begun shared d plan = record {
  nodes = [];
  is = refl;
  instances = refl;
  fine = λ folder h. absurd (contains_nothing folder h);
  right = λ its. All-nil IsRightNode;
  goes = λ all are. are;
}

pub one_more : (shared : Shared) (d : Disk) (plan : List Placed) (k : ℕ) (x : Placed) (pairs : List Pair) (pair : AbiPair) → k < length plan → get_or plan k x ≡ x → NoRepeats (map (λ y. y.0.instance) plan)
    → Progress shared d plan k pairs → PairTold shared (map (λ y. y.0.instance) plan) x pairs (Ok pair) d → Progress shared d plan (k + 1) (pairs ++ pair_view pair ∷ [])
one_more shared d plan k x pairs pair within at each p told =
    let files = told.1 in
    let new = node (own_of shared x.0 files) (nodes_of (in_order node_key (at_places p.nodes x.0.needs))) in
    let next : k + 1 ≡ suc k = omega arith in
    let more : take (k + 1) plan ≡ take k plan ++ x ∷ [] = take_more plan k x within ∙ ap (λ y. take k plan ++ y ∷ []) at in
    let written : pair_view pair ≡ pair_of new =
    told.3 ∙ ap (λ done. pair_by shared (map (λ y. y.0.instance) plan) done x.0 (map file_digest files)) p.is ∙ written_is shared (map (λ y. y.0.instance) plan) p.nodes x.0 files each (are_at plan k p.nodes p.instances) in
    record {
      nodes = p.nodes ++ new ∷ [];
      is = ap (λ ps. ps ++ pair_view pair ∷ []) p.is ∙ ap (λ q. map pair_of p.nodes ++ q ∷ []) written ∙ sym (map-append pair_of p.nodes (new ∷ []));
      instances = map-append instance_of p.nodes (new ∷ []) ∙ ap (λ is. is ++ x.0.instance ∷ []) p.instances ∙ sym (map-append (λ y. y.0.instance) (take k plan) (x ∷ [])) ∙ ap (map (λ y. y.0.instance)) (sym more);
      fine = λ folder h. elim (Contains-append_cases (map (λ y. y.1) (take k plan)) (x.1 ∷ []) folder (subst (λ fs. Contains fs folder) (ap (map (λ y. y.1)) more ∙ map-append (λ y. y.1) (take k plan) (x ∷ [])) h)) [
        | inl before ↦ p.fine folder before
        | inr last ↦ elim (contains_cases x.1 folder [] last) [ inl same ↦ subst (IsFine shared.most d) same told.0 | inr none ↦ absurd (contains_nothing folder none) ]
      ];
      right = λ its. All-append IsRightNode p.nodes (new ∷ []) (p.right its)
          (All-cons IsRightNode new [] (right_node shared x.0 files p.nodes told.4 (item_at its) told.2.order (p.right its)) (All-nil IsRightNode));
      goes = λ all are. p.goes all (subst (λ rest. AreNodesFrom shared d p.nodes rest all) (sym (drop-cons plan k x within ∙ ap (λ y. y ∷ drop (suc k) plan) at)) (new, record { files = files; are = told.2; is = refl }, subst (λ n. AreNodesFrom shared d (p.nodes ++ new ∷ []) (drop n plan) all) next are));
    }
  where
    item_at : HaveTheirFeatures (map (λ y. y.0) plan) → HasItsFeatures x.0
    item_at its = All-contains HasItsFeatures (map (λ y. y.0) plan) x.0 its (map_contains (λ y. y.0) plan x (k, within, at))

pub all_written : (shared : Shared) (d : Disk) (plan : List Placed) (k : ℕ) (pairs : List Pair) → length plan ≡ k → Progress shared d plan k pairs → AreTexts shared d plan pairs
all_written shared d plan k pairs whole p = record {
  fine = λ folder h. p.fine folder (subst (λ xs. Contains (map (λ x. x.1) xs) folder) (sym (subst (λ n. take n plan ≡ plan) whole (take-length plan))) h);
  nodes = p.nodes;
  are = p.goes p.nodes (subst (λ rest. AreNodesFrom shared d p.nodes rest p.nodes) (sym (drop_all k plan (omega (arith, whole)))) refl);
  is = p.is;
}

pub rightly_written : (shared : Shared) (d : Disk) (plan : List Placed) (k : ℕ) (pairs : List Pair) → length plan ≡ k → HaveTheirFeatures (map (λ x. x.0) plan) → Progress shared d plan k pairs → AreOfRightNodes shared d plan pairs
unfolding all_written
rightly_written shared d plan k pairs whole its p = record {
  nodes = p.nodes;
  are = (all_written shared d plan k pairs whole p).are;
  right = p.right its;
  is = p.is;
}

pub limit_passed : (shared : Shared) (d : Disk) (plan : List Placed) (k : ℕ) (x : Placed) (pairs : List Pair) (limit : Limit) → k < length plan → get_or plan k x ≡ x
    → Progress shared d plan k pairs → IsTreeDisk d → FolderIs shared.most x.1 (Err limit) d → IsFirstLimit shared.most d (map (λ y. y.1) plan) limit
limit_passed shared d plan k x pairs limit within at p tree passes = record {
  before = map (λ y. y.1) (take k plan);
  folder = x.1;
  after = map (λ y. y.1) (drop (suc k) plan);
  split = ap (map (λ y. y.1)) (sym (take-append-drop k plan) ∙ ap (λ rest. take k plan ++ rest) (drop-cons plan k x within ∙ ap (λ y. y ∷ drop (suc k) plan) at)) ∙ map-append (λ y. y.1) (take k plan) (x ∷ drop (suc k) plan);
  fine = p.fine;
  tree = tree;
  passes = passes;
}
