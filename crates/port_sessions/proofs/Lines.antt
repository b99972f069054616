-- The line of a protocol error has room.
use Rattle.std.proofs.Common.{◌≡◌, refl}
use Rattle.bounded_list.specs.BoundedLists.{bounded as within_limit}
use Rattle.port_answers.specs.Room.{bounded}
use Rattle.sentinel_core.specs.Serving.Serving.{last_line}

pub protocol_error_fits : bounded last_line ≡ last_line
unfolding within_limit
protocol_error_fits = refl
