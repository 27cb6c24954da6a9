-- Whether the desk is there, which whoever asks is told.
use Rattle.std.specs.Prelude.{◌≡◌, ◌⊎◌, ◌&&◌, ◌||◌, Bool, List, ℕ, None, codes}
use Rattle.std.specs.Str.{bytes_eq}
use Rattle.message_core.specs.Reply.{bytes_of, unavailable}
use Rattle.message_core.specs.declared.message.Message.{Message}
use Rattle.message_core.specs.declared.reply.Reply.{Reply}
use Rattle.page_routes.specs.Places.{path_in}
use Rattle.wire_core.specs.Replies.{is_head, reply_with}

-- a GET or a HEAD of this path
abbrev pub asks_health : Message → Bool
asks_health message =
    bytes_eq (path_in message.target) (codes "/health")
    && (bytes_eq message.method (codes "GET") || is_head message)

abbrev pub health_reply : Bool → Reply
health_reply head_only = reply_with 200 None (codes "ok\n") head_only

-- that it is, or that it isn't
abbrev pub TellsHealth : Bool → List ℕ → Type 0
TellsHealth head_only bytes =
    (bytes ≡ bytes_of (health_reply head_only)) ⊎ (bytes ≡ bytes_of (unavailable head_only))
