use Rattle.vk_shared.proofs.items.item_step.Goals as goal

pub returns-in-Looks-clause-steps : goal.returns-in-Looks-clause-steps
returns-in-Looks-clause-steps g c s = rw c.in-Looks.is (c.look_on.ensures s)

pub returns-in-SetsAside-clause-steps : goal.returns-in-SetsAside-clause-steps
returns-in-SetsAside-clause-steps g c s = rw c.in-SetsAside.is (c.aside_on.ensures s)

pub returns-in-Gathers-clause-steps : goal.returns-in-Gathers-clause-steps
returns-in-Gathers-clause-steps g c s = rw c.in-Gathers.is (c.gather_on.ensures s)

pub returns-in-Publishes-clause-steps : goal.returns-in-Publishes-clause-steps
returns-in-Publishes-clause-steps g c s = rw c.in-Publishes.is (c.publish_on.ensures.steps s)
