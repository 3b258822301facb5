-- The room that a value takes in memory of C's.
use Rattle.std.specs.Prelude.{ℕ}
use prog.Memory.{size, align, capped}
use denote.RattleType.{RattleType}
use denote.Param.{layout}

-- how many bytes a value of the type takes
abbrev pub room_size : RattleType → ℕ
room_size R = capped (size (layout R))

-- A value of the type lies at a multiple of so many bytes.
abbrev pub room_align : RattleType → ℕ
room_align R = capped (align (layout R))
