use Rattle.vk_root.proofs.off_lists.others_by.Goals as goal

pub returns : goal.returns
returns c = record {
  named = c.in_ok-named.named;
  all = c.in_ok-named.ensures;
  order = c.others_in_order.ensures.order;
  each = c.others_in_order.ensures.each;
}
