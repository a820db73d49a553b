-- A plan whose ports stand in folders has one answer.
use Rattle.std.proofs.Common.{◌≡◌, ◌++◌, ◌∷◌, List, [], map, sym, ap, ◌∙◌, subst}
use Rattle.std.specs.Prelude.{Result, Ok, Err}
use Rattle.std.specs.List.{Contains}
use Rattle.std.proofs.lemmas.List.Elements.{Contains-append_right}
use Rattle.vk_spec.specs.Paths.{Path}
use Rattle.vk_spec.specs.Standing.{Disk}
use Rattle.vk_spec.proofs.ListLemmas.{contains_first, contains_later}
use Rattle.vk_base.specs.declared.limits.Limit.{Limit}
use Rattle.vk_tree.specs.Trees.{IsTreeDisk}
use Rattle.vk_resolution.specs.Keys.{in_order}
use Rattle.vk_folder.specs.Folders.{FolderIs}
use Rattle.vk_folder.specs.declared.digests.FileDigest.{FileDigest}
use Rattle.vk_folder.proofs.FolderLaws.{files_are_one, answer_is_one}
use Rattle.vk_abi.specs.Nodes.{Node, node, nodes_of}
use Rattle.vk_abi.specs.Plans.{Shared, Placed, Pair, pair_of, own_of, node_key, at_places, IsNodeOf, AreNodesFrom, IsFine, IsFirstLimit, TextsAre}

one_node : (shared : Shared) (d : Disk) (x : Placed) (done : List Node) (m n : Node) → IsNodeOf shared d x done m → IsNodeOf shared d x done n → m ≡ n
one_node shared d x done m n a b =
    a.is ∙ ap (λ fs. node (own_of shared x.0 fs) (nodes_of (in_order node_key (at_places done x.0.needs)))) (files_are_one d x.1 a.files b.files a.are b.are) ∙ sym b.is

one_nodes : (shared : Shared) (d : Disk) (done : List Node) (plan : List Placed) (ms ns : List Node) → AreNodesFrom shared d done plan ms → AreNodesFrom shared d done plan ns → ms ≡ ns
one_nodes shared d done [] ms ns a b = a ∙ sym b
one_nodes shared d done (x ∷ plan) ms ns a b =
    one_nodes shared d (done ++ b.0 ∷ []) plan ms ns (subst (λ n. AreNodesFrom shared d (done ++ n ∷ []) plan ms) (one_node shared d x done a.0 b.0 a.1 b.1) a.2) b.2

ok_is_no_limit : {A : Type 0} (x : A) (l : Limit) → Ok x ≡ Err l → ⊥
ok_is_no_limit x l e = (cc)

never_both : (most : _) (d : Disk) (folder : Path) (l : Limit) → IsTreeDisk d → IsFine most d folder → FolderIs most folder (Err l) d → ⊥
never_both most d folder l tree fine passes = ok_is_no_limit fine.0 l (answer_is_one most folder (Ok fine.0) (Err l) d tree fine.1 passes)

abbrev limited : Limit → Result (List FileDigest) Limit
limited l = Err l

err_same : (l m : Limit) → limited l ≡ limited m → l ≡ m
err_same l m e = (cc)

first_one : (most : _) (d : Disk) (before : List Path) (f : Path) (after other : List Path) (g : Path) (later : List Path) (l m : Limit) → IsTreeDisk d
    → before ++ f ∷ after ≡ other ++ g ∷ later → ((p : Path) → Contains before p → IsFine most d p) → ((p : Path) → Contains other p → IsFine most d p)
    → FolderIs most f (Err l) d → FolderIs most g (Err m) d → l ≡ m
first_one most d [] f after [] g later l m tree e fine_f fine_g one two =
    let same : f ≡ g = (cc) in err_same l m (answer_is_one most g (Err l) (Err m) d tree (subst (λ p. FolderIs most p (Err l) d) same one) two)
first_one most d [] f after (x ∷ other) g later l m tree e fine_f fine_g one two =
    let same : f ≡ x = (cc) in absurd (never_both most d x l tree (fine_g x (contains_first x other)) (subst (λ p. FolderIs most p (Err l) d) same one))
first_one most d (y ∷ before) f after [] g later l m tree e fine_f fine_g one two =
    let same : g ≡ y = (cc) in absurd (never_both most d y m tree (fine_f y (contains_first y before)) (subst (λ p. FolderIs most p (Err m) d) same two))
first_one most d (y ∷ before) f after (x ∷ other) g later l m tree e fine_f fine_g one two =
    let rest : before ++ f ∷ after ≡ other ++ g ∷ later = (cc) in
    first_one most d before f after other g later l m tree rest (λ p h. fine_f p (contains_later y p before h)) (λ p h. fine_g p (contains_later x p other h)) one two

limit_there : (most : _) (d : Disk) (folders : List Path) (l : Limit) → IsFirstLimit most d folders l → ((folder : Path) → Contains folders folder → IsFine most d folder) → ⊥
limit_there most d folders l first fine =
    never_both most d first.folder l first.tree (fine first.folder (subst (λ fs. Contains fs first.folder) (sym first.split) (Contains-append_right first.before (first.folder ∷ first.after) first.folder (contains_first first.folder first.after)))) first.passes

pub texts_are_one : (shared : Shared) (plan : List Placed) (one other : Result (List Pair) Limit) (d : Disk) → TextsAre shared plan one d → TextsAre shared plan other d → one ≡ other
texts_are_one shared plan (Ok ps) (Ok qs) d a b = ap Ok (a.is ∙ ap (map pair_of) (one_nodes shared d [] plan a.nodes b.nodes a.are b.are) ∙ sym b.is)
texts_are_one shared plan (Ok ps) (Err l) d a b = absurd (limit_there shared.most d (map (λ x. x.1) plan) l b a.fine)
texts_are_one shared plan (Err l) (Ok qs) d a b = absurd (limit_there shared.most d (map (λ x. x.1) plan) l a b.fine)
texts_are_one shared plan (Err l) (Err m) d a b =
    ap Err (first_one shared.most d a.before a.folder a.after b.before b.folder b.after l m a.tree (sym a.split ∙ b.split) a.fine b.fine a.passes b.passes)
