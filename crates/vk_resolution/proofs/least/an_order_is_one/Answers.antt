use Rattle.vk_resolution.proofs.Orders.{in_order-IsListing, in_order-ascends, contains-in_order, in_order-contains, ascending_one}
use Rattle.vk_resolution.specs.Keys.{in_order}
use Rattle.vk_resolution.proofs.Rounds.{least_in_order_one}
use Rattle.vk_resolution.proofs.least.an_order_is_one.Goals as goal

pub returns-clause-facts : goal.returns-clause-facts
returns-clause-facts g c = least_in_order_one

pub returns-clause-things : goal.returns-clause-things
returns-clause-things g c key is_key xs = (
  in_order-IsListing key is_key xs,
  λ ys is. ascending_one key ys (in_order key xs) is.ascends (in_order-ascends key xs)
      (λ z h. in_order-contains key is_key xs z ((is.each z).0 h)) (λ z h. (is.each z).1 (contains-in_order key xs z h)),
)
