-- Facts, instances and troubles are known by their keys.
use Rattle.std.proofs.Common.{◌≡◌, true, List, refl, ap, sym, subst}
use Rattle.std.specs.Prelude.{Decides, bytes_eq}
use Rattle.std.specs.List.{Contains}
use Rattle.std.proofs.lemmas.Slice.Eq.{bytes_eq-Decides}
use Rattle.vk_spec.specs.Pages.{Field, name, class, text, port}
use Rattle.vk_spec.specs.Settings.{Instance}
use Rattle.vk_resolution.specs.Keys.{IsKey}
use Rattle.vk_resolution.specs.Settings.{root, inst, same_instance}
use Rattle.vk_resolution.specs.Asking.{Fact, need, floor, visit, fact_key, same_fact, is_among}
use Rattle.vk_resolution.specs.Planning.{instance_key, feature_key}
use Rattle.vk_resolution.specs.Faults.{Trouble, lacks_registry, lacks_baseline, unreadable, lacks_version, differs, trouble_key, same_trouble, field_number}
use Rattle.vk_resolution.proofs.Members.{both_true, and_true, any_contains, contains_any}
use Rattle.vk_resolution.proofs.Orders.{same_key-Decides}

pub fact_key-IsKey : IsKey fact_key
fact_key-IsKey (need (root t) f) (need (root u) g) e = let a : t ≡ u = (cc) in let b : f ≡ g = (cc) in (cc)
fact_key-IsKey (need (root t) f) (need (inst j) g) e = (cc)
fact_key-IsKey (need (root t) f) (floor p a) e = (cc)
fact_key-IsKey (need (root t) f) (visit i g a) e = (cc)
fact_key-IsKey (need (inst i) f) (need (root u) g) e = (cc)
fact_key-IsKey (need (inst i) f) (need (inst j) g) e =
    let a : i.port ≡ j.port = (cc) in
    let b : i.triplet ≡ j.triplet = (cc) in
    let c : f ≡ g = (cc) in
    let d : i ≡ j = λ k. record { port = a k; triplet = b k } in
    (cc)
fact_key-IsKey (need (inst i) f) (floor p a) e = (cc)
fact_key-IsKey (need (inst i) f) (visit j g a) e = (cc)
fact_key-IsKey (floor p a) (need (root u) g) e = (cc)
fact_key-IsKey (floor p a) (need (inst j) g) e = (cc)
fact_key-IsKey (floor p a) (floor q b) e =
    let c : p ≡ q = (cc) in
    let d : a.text ≡ b.text = (cc) in
    let f : a.port ≡ b.port = (cc) in
    let g : a ≡ b = λ k. record { text = d k; port = f k } in
    (cc)
fact_key-IsKey (floor p a) (visit j g b) e = (cc)
fact_key-IsKey (visit i f a) (need (root u) g) e = (cc)
fact_key-IsKey (visit i f a) (need (inst j) g) e = (cc)
fact_key-IsKey (visit i f a) (floor q b) e = (cc)
fact_key-IsKey (visit i f a) (visit j g b) e =
    let c : i.port ≡ j.port = (cc) in
    let d : i.triplet ≡ j.triplet = (cc) in
    let h : i ≡ j = λ k. record { port = c k; triplet = d k } in
    let l : f ≡ g = (cc) in
    let m : a.text ≡ b.text = (cc) in
    let n : a.port ≡ b.port = (cc) in
    let o : a ≡ b = λ k. record { text = m k; port = n k } in
    (cc)

pub same_fact-Decides : (x y : Fact) → Decides (same_fact x y) (x ≡ y)
same_fact-Decides x y = let d = same_key-Decides (fact_key x) (fact_key y) in ((λ e. fact_key-IsKey x y (d.0 e)), λ e. d.1 (ap fact_key e))

-- a fact is among facts where they contain it
pub among_contains : (facts : List Fact) (x : Fact) → is_among facts x ≡ true → Contains facts x
among_contains facts x e = let r = any_contains (same_fact x) facts e in subst (Contains facts) (sym ((same_fact-Decides x r.0).0 r.2)) r.1

pub contains_among : (facts : List Fact) (x : Fact) → Contains facts x → is_among facts x ≡ true
contains_among facts x h = contains_any (same_fact x) facts x h ((same_fact-Decides x x).1 refl)

pub instance_key-IsKey : IsKey instance_key
instance_key-IsKey i j e =
    let a : i.port ≡ j.port = (cc) in
    let b : i.triplet ≡ j.triplet = (cc) in
    λ k. record { port = a k; triplet = b k }

pub same_instance-Decides : (i j : Instance) → Decides (same_instance i j) (i ≡ j)
same_instance-Decides i j = (
  (λ e. (
      let parts = both_true (bytes_eq i.port j.port) (bytes_eq i.triplet j.triplet) e in
      let a : i.port ≡ j.port = (bytes_eq-Decides i.port j.port).0 parts.0 in
      let b : i.triplet ≡ j.triplet = (bytes_eq-Decides i.triplet j.triplet).0 parts.1 in
      λ k. record { port = a k; triplet = b k }
      )),
  (λ e. and_true (bytes_eq i.port j.port) (bytes_eq i.triplet j.triplet) ((bytes_eq-Decides i.port j.port).1 (ap (λ k. k.port) e)) ((bytes_eq-Decides i.triplet j.triplet).1 (ap (λ k. k.triplet) e))),
)

same_field : (f g : Field) → field_number f ≡ field_number g → f ≡ g
same_field name name e = refl
same_field name class e = (cc)
same_field name text e = (cc)
same_field name port e = (cc)
same_field class name e = (cc)
same_field class class e = refl
same_field class text e = (cc)
same_field class port e = (cc)
same_field text name e = (cc)
same_field text class e = (cc)
same_field text text e = refl
same_field text port e = (cc)
same_field port name e = (cc)
same_field port class e = (cc)
same_field port text e = (cc)
same_field port port e = refl

pub trouble_key-IsKey : IsKey trouble_key
trouble_key-IsKey (lacks_registry p) (lacks_registry q) e = let a : p ≡ q = (cc) in (cc)
trouble_key-IsKey (lacks_registry p) (lacks_baseline q) e = (cc)
trouble_key-IsKey (lacks_registry p) (unreadable path place word) e = (cc)
trouble_key-IsKey (lacks_registry p) (lacks_version q a) e = (cc)
trouble_key-IsKey (lacks_registry p) (differs path field row manifest) e = (cc)
trouble_key-IsKey (lacks_baseline p) (lacks_registry q) e = (cc)
trouble_key-IsKey (lacks_baseline p) (lacks_baseline q) e = let a : p ≡ q = (cc) in (cc)
trouble_key-IsKey (lacks_baseline p) (unreadable path place word) e = (cc)
trouble_key-IsKey (lacks_baseline p) (lacks_version q a) e = (cc)
trouble_key-IsKey (lacks_baseline p) (differs path field row manifest) e = (cc)
trouble_key-IsKey (unreadable path place word) (lacks_registry q) e = (cc)
trouble_key-IsKey (unreadable path place word) (lacks_baseline q) e = (cc)
trouble_key-IsKey (unreadable path place word) (unreadable path2 place2 word2) e =
    let a : place ≡ place2 = (cc) in let b : word ≡ word2 = (cc) in let c : path ≡ path2 = (cc) in (cc)
trouble_key-IsKey (unreadable path place word) (lacks_version q a) e = (cc)
trouble_key-IsKey (unreadable path place word) (differs path2 field row manifest) e = (cc)
trouble_key-IsKey (lacks_version p a) (lacks_registry q) e = (cc)
trouble_key-IsKey (lacks_version p a) (lacks_baseline q) e = (cc)
trouble_key-IsKey (lacks_version p a) (unreadable path place word) e = (cc)
trouble_key-IsKey (lacks_version p a) (lacks_version q b) e =
    let c : p ≡ q = (cc) in
    let d : a.text ≡ b.text = (cc) in
    let f : a.port ≡ b.port = (cc) in
    let g : a ≡ b = λ k. record { text = d k; port = f k } in
    (cc)
trouble_key-IsKey (lacks_version p a) (differs path field row manifest) e = (cc)
trouble_key-IsKey (differs path field row manifest) (lacks_registry q) e = (cc)
trouble_key-IsKey (differs path field row manifest) (lacks_baseline q) e = (cc)
trouble_key-IsKey (differs path field row manifest) (unreadable path2 place word) e = (cc)
trouble_key-IsKey (differs path field row manifest) (lacks_version q a) e = (cc)
trouble_key-IsKey (differs path field row manifest) (differs path2 field2 other_row manifest2) e =
    let n : field_number field ≡ field_number field2 = (cc) in
    let a : field ≡ field2 = same_field field field2 n in
    let b : row ≡ other_row = (cc) in
    let c : manifest ≡ manifest2 = (cc) in
    let d : path ≡ path2 = (cc) in
    (cc)

pub same_trouble-Decides : (t u : Trouble) → Decides (same_trouble t u) (t ≡ u)
same_trouble-Decides t u = let d = same_key-Decides (trouble_key t) (trouble_key u) in ((λ e. trouble_key-IsKey t u (d.0 e)), λ e. d.1 (ap trouble_key e))

pub feature_key-IsKey : IsKey feature_key
feature_key-IsKey f g e = (cc)
