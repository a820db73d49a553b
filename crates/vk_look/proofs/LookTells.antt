-- What a look comes to over files that stay.
use Rattle.std.proofs.Common.{◌≡◌, inl, inr, ◌++◌, ◌&&◌, [], ℕ, List, length, Bool, true, false, refl, ap, sym, ◌∙◌, subst, arith, nat_le, if◌then◌else◌}
use Rattle.std.specs.Prelude.{Option, Some, None, Result, Ok, Err}
use Rattle.std.specs.Str.{bytes_eq}
use Rattle.std.proofs.lemmas.Bool.Decides.{nat_tests}
use Rattle.sha2.specs.Sha256.{sha256}
use Rattle.vk_spec.specs.Paths.{Path}
use Rattle.vk_spec.specs.Standing.{Disk, IsFolder}
use Rattle.vk_spec.specs.Calls.{is_file, is_folder, is_absent, kind_of, read_of, missing, too_large, exists, many}
use Rattle.vk_spec.proofs.FileLemmas.{none_some}
use Rattle.vk_base.specs.declared.limits.Limit.TheVariants.{Bytes}
use Rattle.vk_walk.specs.Walks.{Limit}
use Rattle.vk_walk.specs.Walked.{walk_limits}
use Rattle.vk_protocol.specs.Protocols.{Reply, ends, each}
use Rattle.vk_protocol.specs.Runs.{Replies, Tells}
use Rattle.vk_protocol.proofs.ProtocolLemmas.{tells_then}
use Rattle.vk_walk.specs.WalkProtocol.{walk_of, WalkedIs}
use Rattle.vk_walk.proofs.WalkTells.{walk_tells}
use Rattle.vk_entry.specs.Packages.{File}
use Rattle.vk_entry.specs.Contents.{Content}
use Rattle.vk_entry.specs.ContentLists.{IsList}
use Rattle.vk_places.specs.Places.{text_at, contents_at}
use Rattle.vk_entry.specs.ContentsIn.{contents_in}
use Rattle.vk_entry.specs.Differences.{has_outside}
use Rattle.vk_entry.specs.declared.differences.Difference.TheVariants as difference
use Rattle.vk_look.specs.LookIs.{Wanted, most_list, most_text, bytes_listed, HasText, HasList, HasAll, Holds, IsValid, IsRead, FirstWrong, LookIs, places_of}
use Rattle.vk_look.specs.Looks.{Looked, damaged, look_file, keeps, no_files, looked, look_files, look_compared, look_found, look_listed, list_told, look_contents, look_kept, look_stands, look_of}
use Rattle.vk_look.specs.declared.answers.Harm.{Harm}
use Rattle.vk_look.specs.declared.answers.Harm.TheVariants.{Text, Contents, Extra, Missing, Size, Hash}
use Rattle.vk_look.specs.declared.answers.Look.TheVariants.{Collision}
use Rattle.vk_resolution.proofs.Members.{both_true}
use Rattle.vk_look.proofs.PlaceTests.{some_as, if_case, one_some, same_bytes, other_bytes, some_extra, no_extra, some_missing, all_there}
use Rattle.vk_look.proofs.FileTells.{Goes, none_held, each_goes}
use Rattle.vk_entry.proofs.ContentsFound.{list_in, none_in}

some_none : {X : Type 0} (x : X) (o : Option X) → o ≡ Some x → o ≡ None → ⊥
some_none x o one none = let e : Some x ≡ None = sym one ∙ none in (cc)

and_later : (a b : Bool) → (a && b) ≡ false → a ≡ true → b ≡ false
and_later true b e is = e
and_later false b e is = (cc)

module _ (w : Wanted) (d : Disk) where
  abbrev pub Right : Looked → Type 0
  Right l = LookIs w l d

  module _ (kept : List ℕ) (ht : HasText w kept d) where
    read_so : (cs : List Content) → HasList w.entry cs d → IsRead w cs d
    read_so cs hl = record { kept = kept; kept_is = ht; listed = hl }

    valid : (cs : List Content) (files : List File) → HasList w.entry cs d → HasAll w.entry cs d → Holds w.entry cs files d → IsValid w kept cs files d
    valid cs files hl all holds = record { kept_is = ht; listed = hl; all = all; holds = holds }

    valid_as : (cs : List Content) (files : List File) → kept ≡ w.text → HasList w.entry cs d → HasAll w.entry cs d → Holds w.entry cs files d → IsValid w w.text cs files d
    valid_as cs files same hl all holds = record { kept_is = subst (λ k. HasText w k d) same ht; listed = hl; all = all; holds = holds }

    -- files that aren't kept
    unkept : (cs : List Content) → HasList w.entry cs d → HasAll w.entry cs d → keeps w kept cs ≡ false → (files : List File) → Holds w.entry cs files d → Right (looked w kept (Ok None))
    unkept cs hl all off files holds =
        if_case Right (bytes_eq kept w.text) (Err (Bytes w.most)) (Ok (Collision kept))
        (λ same. (cs, files, valid_as cs files (same_bytes kept w.text same) hl all holds, grind (arith, nat_tests, and_later (bytes_eq kept w.text) (nat_le (bytes_listed cs) w.most) off same), refl))
        (λ other. (cs, files, valid cs files hl all holds, other_bytes kept w.text other))

    -- files that are
    hit : (cs : List Content) → HasList w.entry cs d → HasAll w.entry cs d → keeps w kept cs ≡ true → (files : List File) → Holds w.entry cs files d → Right (looked w kept (Ok (Some files)))
    hit cs hl all on files holds =
        let both = both_true (bytes_eq kept w.text) (nat_le (bytes_listed cs) w.most) on in
        (cs, valid_as cs files (same_bytes kept w.text both.0) hl all holds, grind (arith, nat_tests, both.1))

    wrong : (cs : List Content) → HasList w.entry cs d → HasAll w.entry cs d → (harm : Harm) → FirstWrong harm w.entry cs d → Right (looked w kept (Err harm))
    wrong cs hl all Text so = absurd so.wrong
    wrong cs hl all Contents so = absurd so.wrong
    wrong cs hl all Extra so = absurd so.wrong
    wrong cs hl all Missing so = absurd so.wrong
    wrong cs hl all Size so = (cs, read_so cs hl, all, so)
    wrong cs hl all Hash so = (cs, read_so cs hl, all, so)

    ended : (cs : List Content) (keep : Bool) (r : Result (Option (List File)) Harm) → HasList w.entry cs d → HasAll w.entry cs d → keeps w kept cs ≡ keep → Goes w.entry keep cs cs d r → Right (looked w kept r)
    ended cs keep (Err harm) hl all is so = wrong cs hl all harm so
    ended cs keep (Ok (Some files)) hl all is so = hit cs hl all (is ∙ so.0) files so.1
    ended cs keep (Ok None) hl all is so = unkept cs hl all (is ∙ so.0) so.1 so.2

    files_tell : (cs : List Content) → HasList w.entry cs d → HasAll w.entry cs d → Tells Right (look_files w kept cs) d
    files_tell cs hl all =
        tells_then (Goes w.entry (keeps w kept cs) cs cs d) Right (each (look_file w.entry) cs (no_files (keeps w kept cs))) (λ r. ends (looked w kept r)) d
        (λ r so. ended cs (keeps w kept cs) r hl all refl so)
        (each_goes w.entry (keeps w kept cs) d cs [] cs (Ok (no_files (keeps w kept cs))) refl all.there (none_held w.entry (keeps w kept cs) d))

    found_tells : (cs : List Content) (r : Result (List Path) Limit) → HasList w.entry cs d → WalkedIs walk_limits w.entry r d → Tells Right (look_found w kept cs r) d
    found_tells cs (Err limit) hl walked = (cs, read_so cs hl, inr (limit, walked))
    found_tells cs (Ok found) hl walked =
        let files = (walked.0 ht.folder).0 in
        let calm = (walked.0 ht.folder).1 in
        if_case (λ o. Tells Right (look_compared w kept cs o) d) (has_outside found (places_of w.entry cs)) (Some difference.Extra) (if has_outside (places_of w.entry cs) found then Some difference.Missing else None)
        (λ more. (cs, read_so cs hl, some_extra w.entry cs found d files more))
        (λ no_more. if_case (λ o. Tells Right (look_compared w kept cs o) d) (has_outside (places_of w.entry cs) found) (Some difference.Missing) None
        (λ lacks. (cs, read_so cs hl, no_extra w.entry cs found d files calm no_more, some_missing w.entry cs found d files (some_as kept (d (text_at w.entry)) ht.stands) (some_as hl.bytes (d (contents_at w.entry)) hl.stands) lacks))
        (λ none. files_tell cs hl (all_there w.entry cs found d files calm no_more none)))

    listed_tells : (o : Option (List Content)) → ((cs : List Content) → o ≡ Some cs → HasList w.entry cs d) → (o ≡ None → (cs : List Content) → HasList w.entry cs d → ⊥) → Tells Right (look_listed w kept o) d
    listed_tells None some none = (kept, ht, none refl)
    listed_tells (Some cs) some none =
        tells_then (λ r. WalkedIs walk_limits w.entry r d) Right (walk_of walk_limits w.entry) (look_found w kept cs) d
        (λ r walked. found_tells cs r (some cs refl) walked)
        (walk_tells walk_limits w.entry d refl)

    contents_tell : (reply : Reply (read_of (contents_at w.entry) most_list)) → Replies (read_of (contents_at w.entry) most_list) reply d → Tells Right (look_listed w kept (list_told reply)) d
    contents_tell (Ok bytes) may = listed_tells (contents_in bytes)
        (λ cs e. record { bytes = bytes; stands = may.says; short = may.small; list = list_in bytes cs e })
        (λ e cs h. (none_in bytes).0 e cs (subst (λ b. IsList b cs) (one_some h.bytes bytes (d (contents_at w.entry)) h.stands may.says) h.list))
    contents_tell (Err missing) may = listed_tells None (λ cs e. (cc)) (λ e cs h. some_none h.bytes (d (contents_at w.entry)) h.stands may.says)
    contents_tell (Err too_large) may = listed_tells None (λ cs e. (cc))
        (λ e cs h. let same = one_some may.says.0 h.bytes (d (contents_at w.entry)) may.says.1 h.stands in omega (arith, may.says.2, h.short, ap length same))
    contents_tell (Err exists) may = absurd may.says
    contents_tell (Err many) may = absurd may.says

  text_tells : IsFolder d w.entry → (reply : Reply (read_of (text_at w.entry) (most_text w))) → Replies (read_of (text_at w.entry) (most_text w)) reply d → Tells Right (look_kept w reply) d
  text_tells folder (Ok kept) may =
      if_case (λ p. Tells Right p d) (bytes_eq (sha256 kept) w.hash) (look_contents w kept) (damaged Text)
      (λ same. λ reply says. contents_tell kept (record { folder = folder; stands = may.says; short = may.small; hashed = same_bytes (sha256 kept) w.hash same }) reply says)
      (λ other. inr (folder, λ k h. other_bytes (sha256 kept) w.hash other (ap sha256 (one_some kept k (d (text_at w.entry)) may.says h.stands) ∙ h.hashed)))
  text_tells folder (Err missing) may = inr (folder, λ k h. some_none k (d (text_at w.entry)) h.stands may.says)
  text_tells folder (Err too_large) may = inr (folder, λ k h. let same = one_some may.says.0 k (d (text_at w.entry)) may.says.1 h.stands in omega (arith, may.says.2, h.short, ap length same))
  text_tells folder (Err exists) may = absurd may.says
  text_tells folder (Err many) may = absurd may.says

  stands_tell : (reply : Reply (kind_of w.entry)) → Replies (kind_of w.entry) reply d → Tells Right (look_stands w reply) d
  stands_tell (Ok is_file) may = inl may.says
  stands_tell (Ok is_folder) may = λ reply says. text_tells may.says reply says
  stands_tell (Ok is_absent) may = λ stands. none_some (d (w.entry ++ stands.0)) (may.says stands.0) stands.1
  stands_tell (Err r) may = absurd may.says

-- what a look answers is what the files say
pub look_tells : (w : Wanted) (d : Disk) → Tells (λ l. LookIs w l d) (look_of w) d
unfolding look_of
look_tells w d = λ reply may. stands_tell w d reply may
