-- The calls (document 01, 'The calls', and document 02), each with its numbers and the buffer that it is lent beside disc and ledger.
use Rattle.std.specs.Prelude.{ℕ, Bool, true, false, List, []}
use Rattle.std.specs.Prelude.{Option, None, Some}
use Rattle.extent.specs.declared.Extent.{Extent}
use Rattle.vat.specs.Sector.{no_stamp}

pub data Call : Type 0 where
  begin : Call
  mount : Call
  write : Option ℕ → List ℕ → Call  -- "Blocks may be recorded without a number."
  release : ℕ → Call
  close_packet : Call
  commit : Option (List ℕ) → Call  -- "A second form of commit takes a 12-byte ECMA-167 timestamp"
  close_session : Extent → Extent → ℕ → Call  -- "The host gives the two extents and the partition's start"
  read : ℕ → List ℕ → Call
  look_back : ℕ → Call
  time_of : ℕ → List ℕ → Call

-- The timestamp that a commit records: "as access, modification and attribute time", or zeros without one.
abbrev pub stamp_of : Option (List ℕ) → List ℕ
stamp_of None = no_stamp
stamp_of (Some stamp) = stamp

-- The buffer: "write and read are lent a block too", a commit its timestamp, and a time its answer.
abbrev pub stamp_buffer : Option (List ℕ) → List ℕ
stamp_buffer None = []
stamp_buffer (Some stamp) = stamp

abbrev pub buffer_of : Call → List ℕ
buffer_of begin = []
buffer_of mount = []
buffer_of (write n block) = block
buffer_of (release v) = []
buffer_of close_packet = []
buffer_of (commit stamp) = stamp_buffer stamp
buffer_of (close_session main reserve start) = []
buffer_of (read v block) = block
buffer_of (look_back k) = []
buffer_of (time_of k answer) = answer

-- What the rules about lists of calls ask of a call.
pub record Manner : Type 0 where
  pub restores : Bool  -- "until a begin, mount or look back is done"
  pub may_record : Bool  -- what 17 turns away: "write, release, commit, close packet or closing"
  pub saves : Bool  -- "In the cut rule a closing counts as a commit."
  pub only_tells : Bool  -- "this and any later call that only tells counts as a refused one"

abbrev pub manner : Bool → Bool → Bool → Bool → Manner
manner restores may_record saves only_tells = record { restores = restores; may_record = may_record; saves = saves; only_tells = only_tells }

abbrev pub manner_of : Call → Manner
manner_of begin = manner true false false false
manner_of mount = manner true false false false
manner_of (write n block) = manner false true false false
manner_of (release v) = manner false true false false
manner_of close_packet = manner false true false false
manner_of (commit stamp) = manner false true true false
manner_of (close_session main reserve start) = manner false true true false
manner_of (read v block) = manner false false false false
manner_of (look_back k) = manner true false false false
manner_of (time_of k answer) = manner false false false true

abbrev pub restores : Call → Bool
restores c = (manner_of c).restores

abbrev pub may_record : Call → Bool
may_record c = (manner_of c).may_record

abbrev pub saves : Call → Bool
saves c = (manner_of c).saves

abbrev pub only_tells : Call → Bool
only_tells c = (manner_of c).only_tells
