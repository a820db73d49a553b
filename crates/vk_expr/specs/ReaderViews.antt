-- What contracts see of tokens and of what a reader keeps.
use Rattle.std.specs.Prelude.{Bool, true, false, List, [], ◌∷◌, map, reverse}
use Rattle.vk_expr.specs.Tokens as the
use Rattle.vk_expr.specs.Reading as reading
use Rattle.vk_expr.specs.Views.{condition_of}
use Rattle.vk_expr.specs.declared.tokens.Joint.{Joint}
use Rattle.vk_expr.specs.declared.tokens.Joint.TheVariants as joint
use Rattle.vk_expr.specs.declared.tokens.Sign.{Sign}
use Rattle.vk_expr.specs.declared.tokens.Sign.TheVariants as sign
use Rattle.vk_expr.specs.declared.frames.Chain.{Chain}
use Rattle.vk_expr.specs.declared.frames.Chain.TheVariants as chain
use Rattle.vk_expr.specs.declared.frames.Frame.{Frame}
use Rattle.vk_expr.specs.declared.frames.Frame.TheVariants as frame
use Rattle.vk_expr.specs.declared.reader.State.{State}
use Rattle.vk_expr.specs.declared.reader.State.TheVariants as state

abbrev pub joint_of : Joint → the.Joint
joint_of joint.Both = the.both
joint_of joint.Either = the.either

abbrev pub sign_of : Sign → the.Sign
sign_of (sign.Name word) = the.name word
sign_of sign.Negates = the.negates
sign_of (sign.Joins joint) = the.joins (joint_of joint)
sign_of sign.Opens = the.opens
sign_of sign.Closes = the.closes
sign_of sign.Stray = the.stray

abbrev pub chain_of : Chain → reading.Chain
chain_of chain.Single = reading.single
chain_of (chain.Joined joint members) = reading.joined (joint_of joint) (map condition_of members)

abbrev pub frame_of : Frame → reading.Frame
frame_of frame.Pending = reading.pending
frame_of (frame.Around at chain) = reading.around at (chain_of chain)

-- what is pending stands with the innermost last
abbrev pub frames_of : List Frame → List reading.Frame
frames_of frames = reverse (map frame_of frames)

abbrev pub state_of : State → reading.State
state_of (state.Wanted frames chain) = reading.wanted (frames_of frames) (chain_of chain)
state_of (state.Ended frames chain value) = reading.ended (frames_of frames) (chain_of chain) (condition_of value)

-- whether a NOT is the innermost that is pending
abbrev pub is_pending : reading.Frame → Bool
is_pending reading.pending = true
is_pending (reading.around at chain) = false

abbrev pub is_negated : List reading.Frame → Bool
is_negated [] = false
is_negated (f ∷ fs) = is_pending f
