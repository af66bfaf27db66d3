-- The shares of lanes.
use Rattle.std.specs.Prelude.{◌+◌, ◌<◌, ◌≤◌, ℕ, true, false, List, map, max, get_or, set, if◌then◌else◌}
use Rattle.std.specs.List.{range_with_len}
use Rattle.md_history.specs.Front.{is_lane_of}
use Rattle.md_words.specs.declared.content.Spot.{Spot}
use Rattle.md_words.specs.declared.shape.Shape.{Shape}
use Rattle.md_words.specs.Lanes.{node_of}
use Rattle.md_machine.specs.FreeToReturn.{KnowsFree}
use Rattle.md_machine.specs.declared.pass.PassView.{PassView}
use Rattle.md_rule_lanes.specs.declared.shares.Share.{Share}
use Rattle.md_rule_lanes.specs.declared.shares.TheConstants.{SHARES, UNUSED}

-- the share of a lane
abbrev pub share_at : List Share → (lane : ℕ) → Share
share_at shares lane = get_or shares lane UNUSED

-- the shares of two passes that are joined: those of the other's lanes are the other's
unfoldable pub joined_shares : (lanes : List ℕ) → (mine others : List Share) → List Share
joined_shares lanes mine others = map (λ lane. if is_lane_of lanes lane then share_at others lane else share_at mine lane) (range_with_len 0 SHARES)

-- the share of one lane changed
abbrev pub with_share : List Share → (lane : ℕ) → Share → List Share
with_share shares lane s = set shares lane s

-- after an install that won, at a slot of the lane's descriptor
abbrev pub after_slot : List Share → Spot → List Share
after_slot shares to = with_share shares to.desc (record (share_at shares to.desc) { slots_written = max (share_at shares to.desc).slots_written (to.slot + 1) })

-- after the lane's attempt was put in hand, and after it was answered or stopped
abbrev pub after_begin : List Share → (lane : ℕ) → List Share
after_begin shares lane = with_share shares lane (record (share_at shares lane) { left_open = true })

abbrev pub after_end : List Share → (lane : ℕ) → List Share
after_end shares lane = with_share shares lane (record (share_at shares lane) { left_open = false })

-- after the lane's descriptor began another attempt
abbrev pub after_restart : List Share → (lane : ℕ) → List Share
after_restart shares lane = with_share shares lane (record (share_at shares lane) { slots_written = 0; left_open = false })

-- the nodes of a lane that come free are known to be free
abbrev pub MayReturn : Shape → PassView → (lane taken before : ℕ) → Type 0
MayReturn shape view lane taken before = (i : ℕ) → taken ≤ i → i < before → KnowsFree shape view (node_of shape lane i)
