-- A timestamp (ECMA-167 1/7.3; document 02, R-3): twelve bytes that hold a date and time of day, and how far its clock is ahead of UTC. Which of them
-- are within the limits, and what is told of one: its minutes from 1 January 1970 UTC, and whether the zone was given.
use Rattle.std.specs.Prelude.{ℕ, ◌-◌, ◌/◌, ◌%◌, Bool, true, false, ◌&&◌, ◌||◌, List, ◌++◌, eqb, leb, ℤ, pos, negsuc, ◌-ℤ◌}
use Rattle.std.specs.Int.Signed.{le_z}
use Rattle.le.specs.Field.{le, read_le}
use Rattle.timestamp.specs.declared.Moment.{Moment}
use Rattle.timestamp.specs.Calendar.{moment, real, minutes_before}

abbrev pub stamp_length : ℕ
stamp_length = 12

-- The answer: "8 lent bytes: the minutes, then 1 if marked or else 0, 32 bits each".
abbrev pub told_length : ℕ
told_length = 8

-- The type is in the high four of the first 16 bits, and the zone in the low twelve.
abbrev pub kind_of : List ℕ → ℕ
kind_of s = read_le 2 s 0 / 4096

-- "The zone is a signed field of twelve bits": from 2048 on a number of these bits stands for one that is 4096 less.
abbrev pub signed_if : Bool → ℕ → ℤ
signed_if true x = pos x -ℤ pos 4096
signed_if false x = pos x

unfoldable pub zone_of : List ℕ → ℤ
zone_of s =
    let x : ℕ = read_le 2 s 0 % 4096 in
    signed_if (leb 2048 x) x

-- Year, month, day, hour and minute.
unfoldable pub moment_of : List ℕ → Moment
moment_of s = moment (read_le 2 s 2) (read_le 1 s 4) (read_le 1 s 5) (read_le 1 s 6) (read_le 1 s 7)

-- "from -1440 to 1440 minutes, or -2047 for not given"; `negsuc n` is -(n + 1).
abbrev pub from_to : ℤ → ℤ → ℤ → Bool
from_to low high z = le_z low z && le_z z high

abbrev pub not_given : ℤ → Bool
not_given z = from_to (negsuc 2046) (negsuc 2046) z

abbrev pub zoned : ℤ → Bool
zoned z = from_to (negsuc 1439) (pos 1440) z || not_given z

-- "The type must be 1, the year 1970 to 2099, and the date a real one. Hours are at most 23, minutes and seconds 59, the three fractions 99."
unfoldable pub valid : List ℕ → Bool
valid s =
    eqb (kind_of s) 1
    && (leb 1970 (read_le 2 s 2)
    && (leb (read_le 2 s 2) 2099
    && (real (moment_of s)
    && (leb (read_le 1 s 8) 59  -- seconds
    && (leb (read_le 1 s 9) 99  -- hundredths of a second
    && (leb (read_le 1 s 10) 99  -- hundreds of microseconds
    && (leb (read_le 1 s 11) 99  -- microseconds
    && zoned (zone_of s))))))))

-- "Zone -2047 counts as 0 and is marked."
abbrev pub counted : Bool → ℤ → ℤ
counted true z = pos 0
counted false z = z

abbrev pub marked : Bool → ℕ
marked true = 1
marked false = 0

-- "in whole minutes from 1 January 1970 UTC, as a signed number; seconds are dropped first": the minutes on the stamp's own clock, less the zone.
abbrev pub utc_minutes : Moment → ℤ → ℤ
utc_minutes t zone = pos (minutes_before t) -ℤ zone

unfoldable pub minutes_of : List ℕ → ℤ
minutes_of s = utc_minutes (moment_of s) (counted (not_given (zone_of s)) (zone_of s))

-- A signed number of 32 bits: below 0 it stands 2^32 higher.
abbrev pub word : ℤ → ℕ
word (pos n) = n
word (negsuc n) = 4294967295 - n

unfoldable pub told : List ℕ → List ℕ
told s = le 4 (word (minutes_of s)) ++ le 4 (marked (not_given (zone_of s)))
