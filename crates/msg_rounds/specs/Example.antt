-- An example: three nodes, of which node 0 sends.
use Rattle.std.specs.Prelude.{ℕ}
use Rattle.dlm_modes.specs.Points.{with_at}
use Rattle.dlm_modes.specs.declared.block.Block.{Block}
use Rattle.dlm_modes.specs.declared.mode.Mode.TheVariants.{CR}
use Rattle.dlm_space.specs.Locks.{Lock, new_locks, asked_now, granted}
use Rattle.msg_rounds.specs.Locks.{token_res, message_res, ack_res, token_asked, message_asked, published}

-- a node comes in
abbrev pub come_in : (ℕ → Lock) → ℕ → ℕ → Lock
come_in locks n = with_at locks ack_res (asked_now (locks ack_res) n CR)

-- the head of the queue on a resource is granted
abbrev pub grant : (ℕ → Lock) → ℕ → ℕ → Lock
grant locks r = with_at locks r (granted (locks r))

unfoldable pub three_nodes : ℕ → Lock
three_nodes = come_in (come_in (come_in new_locks 0) 1) 2

unfoldable pub with_token : ℕ → Lock
with_token = grant (token_asked three_nodes 0) token_res

unfoldable pub with_message : ℕ → Lock
with_message = grant (message_asked with_token 0) message_res

unfoldable pub first_published : Block → ℕ → Lock
first_published block = published with_message 0 block
