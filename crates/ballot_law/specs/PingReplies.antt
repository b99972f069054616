-- What a node's answer to PING counts as.
use Rattle.std.specs.Prelude.{ℕ, Bool, true, false, List, if◌then◌else◌, codes, nat_eq}
use Rattle.std.specs.List.{starts_with}
use Rattle.std.specs.Cmp.Lexicographic.{pointwise}
use Rattle.ballot_law.specs.declared.replies.PingReply.{PingReply}
use Rattle.ballot_law.specs.declared.replies.PingReply.TheVariants.{Pong, Loading, MasterDown, Other}

-- the simple string PONG, or an error that begins LOADING or MASTERDOWN; any other answer isn't valid
abbrev pub reply_of : (is_error : Bool) → List ℕ → PingReply
reply_of false text = if pointwise nat_eq text (codes "PONG") then Pong else Other
reply_of true text =
    if starts_with nat_eq text (codes "LOADING") then Loading else (if starts_with nat_eq text (codes "MASTERDOWN") then MasterDown else Other)

abbrev pub is_valid : PingReply → Bool
is_valid Pong = true
is_valid Loading = true
is_valid MasterDown = true
is_valid Other = false
