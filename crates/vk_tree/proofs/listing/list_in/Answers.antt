use Rattle.std.proofs.Common.{◌≡◌, true, false, rules, refl, ap, sym, ◌∙◌, subst, arith}
use Rattle.std.proofs.lemmas.Result.{err_from_is_err_and}
use Rattle.std.specs.Map.{keys_of}
use Rattle.std.specs.FinMap as map
use Rattle.vk_spec.specs.Standing.{disk_of, IsListing}
use Rattle.vk_tree.specs.Answers.{entries_of}
use Rattle.vk_tree.specs.Listing.{Lists}
use Rattle.vk_tree.proofs.ListingLemmas.{one_listed, still_few, refused, no_entry, entries_some}
use Rattle.vk_tree.proofs.RangeLemmas.{range_listed, all_gone, all_passed}
use Rattle.vk_tree.proofs.listing.list_in.Goals.{in-None, in-Some+in_default}
use Rattle.vk_tree.proofs.listing.list_in.Goals as goal

pub loop-path-init : goal.loop-path-init
loop-path-init c =
    rw (c.into_iter-path-iterator.ensures.into_iter_gives, c.new-found.ensures)
    (range_listed c.args.files.now c.args.dir.now c.range-path-items.result c.range-path-items.ensures.ordered (c.range-path-items.ensures.between tt) (c.range-path-items.ensures.in_range tt), (λ k d within. (search rules)), omega arith)

pub loop-path-preserved : goal.loop-path-preserved
loop-path-preserved c =
    let below = c.in-Some-name_below.ensures.some in (
      one_listed (disk_of (map.from_entries c.args.files.now.entries)) c.args.dir.now c.in-Some.path.now c.in-Some-name_below.name.now c.in-Some-name_below.folder below.0 (keys_of c.next.new.self) 100000 (entries_of c.loop-path.found) (entries_of c.add.new.found) below.1 below.2 c.in_ok-add.ensures.added
          (subst (λ l. Lists (disk_of (map.from_entries c.args.files.now.entries)) c.args.dir.now l (entries_of c.loop-path.found)) (ap keys_of c.in-Some.ensures.steps) c.loop-path.invariant.0),
      c.in_ok-add.ensures.parts,
      still_few 100000 c.loop-path.found c.add.new.found _ c.in_ok-add.ensures.added c.loop-path.invariant.2,
    )

pub returns-in_err-add-clause-listed : goal.returns-in_err-add-clause-listed
returns-in_err-add-clause-listed c =
    let p = err_from_is_err_and c.from_residual.result c.from_residual.ensures.1 in
    let below = c.in-Some-name_below.ensures.some in
    rw (p.1, p.2) (refused (disk_of (map.from_entries c.args.files.now.entries)) c.args.dir.now c.in-Some.path.now c.in-Some-name_below.name.now c.in-Some-name_below.folder below.0 (keys_of c.next.new.self) 100000 (entries_of c.loop-path.found) (entries_of c.add.new.found) c.in_err-add.field-0.0 refl below.1 c.in_err-add.ensures.added
    (subst (λ l. Lists (disk_of (map.from_entries c.args.files.now.entries)) c.args.dir.now l (entries_of c.loop-path.found)) (ap keys_of c.in-Some.ensures.steps) c.loop-path.invariant.0))

pub returns-then-is_empty-clause-listed : goal.returns-then-is_empty-clause-listed
returns-then-is_empty-clause-listed c = elim c.match-next.branch [
  | in-None w ↦ no_entry (disk_of (map.from_entries c.args.files.now.entries)) c.args.dir.now (entries_of c.loop-path.found)
      (all_gone (disk_of (map.from_entries c.args.files.now.entries)) c.args.dir.now c.loop-path.path-iterator c.loop-path.found w.in-None.ensures.steps.0 c.loop-path.invariant.0)
      (ap entries_of (c.is_empty.ensures.0 c.if-is_empty.true))
  | in-Some+in_default w ↦ no_entry (disk_of (map.from_entries c.args.files.now.entries)) c.args.dir.now (entries_of c.loop-path.found)
      (all_passed (disk_of (map.from_entries c.args.files.now.entries)) c.args.dir.now c.loop-path.path-iterator c.next.new.self _ c.loop-path.found w.in-Some.ensures.steps (w.name_below.ensures.none w.in_default.is) c.loop-path.invariant.0)
      (ap entries_of (c.is_empty.ensures.0 c.if-is_empty.true))
]

pub returns-clause-listed : goal.returns-clause-listed
returns-clause-listed c =
    let listing = elim c.match-next.branch as (λ w. IsListing (disk_of (map.from_entries c.args.files.now.entries)) c.args.dir.now (entries_of c.loop-path.found)) [
      | in-None w ↦ all_gone (disk_of (map.from_entries c.args.files.now.entries)) c.args.dir.now c.loop-path.path-iterator c.loop-path.found w.in-None.ensures.steps.0 c.loop-path.invariant.0
      | in-Some+in_default w ↦ all_passed (disk_of (map.from_entries c.args.files.now.entries)) c.args.dir.now c.loop-path.path-iterator c.next.new.self _ c.loop-path.found w.in-Some.ensures.steps (w.name_below.ensures.none w.in_default.is) c.loop-path.invariant.0
    ] in
    (listing, entries_some (disk_of (map.from_entries c.args.files.now.entries)) c.args.dir.now c.loop-path.found listing (λ none. let clash : false ≡ true = sym c.if-is_empty.false ∙ c.is_empty.ensures.1 none in (cc)))
