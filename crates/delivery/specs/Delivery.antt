-- What is delivered: a statement for each claim and theorem about the tender and documents 01 and 02, in their order. `proofs/Delivered.antt` proves them all.
-- They are about the definitions `after`, `after_roles` and `view`. That the C functions do what these say, for every input, are the functions' own
-- contracts (`crates/station/src/lib.rt`); what a host program draws from both stands in `crates/client/src`.
use Rattle.std.specs.Prelude.{ℕ, suc, ◌+◌, ◌*◌, ◌≤◌, ◌<◌, true, false, List, ◌≡◌, T, ℤ, length, get_or, replicate}
use Rattle.std.proofs.Math.IntN.{suc_ℤ}
use Rattle.std.specs.Int.{w32}
use Rattle.std.proofs.Common.{to_z}
use Rattle.le.specs.Bytes.{every}
use Rattle.le.specs.Field.{read_le}
use Rattle.le.proofs.Runs.{AllBytes}
use Rattle.timestamp.specs.declared.Moment.{Moment}
use Rattle.timestamp.specs.Calendar.{moment, real, minutes_before, next_minute}
use Rattle.timestamp.specs.Timestamp.{stamp_length, valid, zone_of, not_given, marked, minutes_of, utc_minutes, told}
use Rattle.timestamp.proofs.Theorems.{Risen}
use Rattle.vat.specs.Table.{sector_length, most_bytes, limit, unused, unused_or_below, Lower, table_of, entry_count, entries_of, previous_of, is_table}
use Rattle.vat.specs.Own.{own_count, own_sectors}
use Rattle.vat.specs.Sector.{table_bytes, icb}
use Rattle.vat.proofs.Joined.{Stand, AllSmall}
use Rattle.vat.proofs.Theorems.{Tells, ReadsBack}
use Rattle.extent.specs.declared.Extent.{Extent}
use Rattle.anchor.specs.Anchor.{farthest_start, anchor, anchor_tagged}
use Rattle.disc.specs.Disc.{Disc, recorded, kind_at}
use Rattle.disc.specs.Tables.{table_at}
use Rattle.disc.specs.Again.{fresh_of}
use Rattle.disc.proofs.Recording.{Sound}
use Rattle.disc.proofs.Fresh.{NeitherFrom}
use Rattle.volume.specs.declared.Volume.{Volume}
use Rattle.volume.specs.Volume.{ledger_length, unpack, pack}
use Rattle.volume.proofs.State.{Proper}
use Rattle.recorder.specs.Calls.{Call, buffer_of, saves}
use Rattle.recorder.specs.Refusals.{outcome}
use Rattle.recorder.specs.Effects.{after}
use Rattle.run.specs.Entry.{most_extents, extents_of, laid, is_entry, entry}
use Rattle.run.proofs.Theorems.{Recognised}
use Rattle.roles.specs.Keeping.{outcome_roles, left_roles, after_roles}
use Rattle.history.specs.Recorded.{WriteOnce, RecordedSame}
use Rattle.history.specs.Claim.{PowerCuts}
use Rattle.history.specs.Times.{TellsTime, saved_stamp, SaveTimes}
use Rattle.history.specs.Closed.{ClosedDiscs}
use Rattle.history.proofs.Theorem.{Remounted}
use Rattle.archive.specs.Earlier.{EntriesStay, EarlierEntries}
use Rattle.archive.specs.Viewing.{ViewsInLists}
use Rattle.space.specs.Space.{Space}
use Rattle.space.specs.Called.{AsWithoutRoles}
use Rattle.alike.specs.Alike.{MeanNothing}
use Rattle.alike.specs.Scribbles.{ScribbledPowerCuts}
use Rattle.bench.proofs.Starred.{all_right, starred, requested, closings, unnumbered}
use Rattle.bench.proofs.Apart.{apart}

pub record Delivery : Type 0 where
  -- ---- the tender

  -- "Sectors are recorded in ascending order and never twice."
  pub never-twice : WriteOnce
  -- Demand 1: "is told done or one refusal number", and "A refusal alters no lent byte." A refusal's second number is 0, and a call that is done answers its
  -- second number alone, of 32 bits.
  pub refusals : (d : Disc) (roles l : List ℕ) (c : Call) (n : ℕ) → outcome_roles d roles l c ≡ suc n
      → after_roles d roles l c ≡ left_roles (suc n * 4294967296) d.image d.kinds roles l (buffer_of c)
  pub answers : (d : Disc) (l : List ℕ) (c : Call) → outcome d l c ≡ 0 → (after d l c).answer < 4294967296
  -- Demand 2: "Every map of up to 458 numbers, once recorded, reads back as that map", which reads 4,087 (R-8), and is of both forms: where the table has own
  -- sectors, these stand at its blocks.
  pub reads-back : (lower : Lower) (map : List ℕ) (previous : ℕ) (blocks stamp : List ℕ) (b : ℕ) → length map ≤ limit → every (unused_or_below b) map ≡ true → unused_or_below b previous ≡ true
      → Stand lower blocks (own_sectors (table_bytes map previous)) → AllSmall blocks → length stamp ≡ stamp_length → b < 4294967296 → ReadsBack lower map previous blocks stamp b
  -- "Every table sector is read as the map it holds, and no other sector is taken for one."
  pub tells : (lower : Lower) (s : List ℕ) (b : ℕ) → is_table lower s b ≡ true → Tells lower s b
  pub of-kind-1 : (d : Disc) (b : ℕ) → (kind_at d b ≡ 1 → ⊥) → table_at d b ≡ false
  pub at-one-block : (lower lower' : Lower) (s : List ℕ) (b b' : ℕ) → is_table lower s b ≡ true → is_table lower' s b' ≡ true → b ≡ b'
  pub not-elsewhere : (map : List ℕ) (previous : ℕ) (blocks stamp : List ℕ) (b : ℕ) → length map ≤ limit → length blocks ≡ own_count (length (table_bytes map previous)) → length stamp ≡ stamp_length
      → b < 4294967296 → (lower : Lower) (b' : ℕ) → (b' ≡ b → ⊥) → is_table lower (icb (table_bytes map previous) blocks stamp b) b' ≡ false
  pub unused-at-block-0 : (lower : Lower) (s : List ℕ) → is_table lower s 0 ≡ true
      → let t : List ℕ = table_of lower s in ((i : ℕ) → i < entry_count t → get_or (entries_of t) i 0 ≡ unused) × (previous_of t ≡ unused)
  -- Demand 3, which document 01 states as the book.
  pub power-cuts : PowerCuts
  -- "A save is one finished table sector", and a mount on what it leaves shows it.
  pub save-then-mount : (d : Disc) (l : List ℕ) → AllBytes l → (c : Call) → saves c ≡ true → outcome d l c ≡ 0 → (m : List ℕ) → length m ≡ ledger_length → Remounted d l c m
  -- ---- document 01

  -- "Bytes of a sector whose kind is not 1 mean nothing", to each call, and to demand 3.
  pub mean-nothing : MeanNothing
  pub scribbled-power-cuts : ScribbledPowerCuts
  -- The ledger, of "16,364 bytes" (R-8): its bytes and what they say determine each other.
  pub unpacked : (v : Volume) → Proper v → unpack (pack v) ≡ v
  pub packed : (l : List ℕ) → AllBytes l → length l ≡ ledger_length → pack (unpack l) ≡ l
  -- "After each call that is done, the ledger's recorded equals the disc's."
  pub recorded-same : RecordedSame
  -- "Rows with * are shown once, as one claim over a list of them, from the definitions".
  pub starred-rows : T (all_right starred)
  -- ---- document 02

  -- R-1, R-2 and R-3 in rows: numbers above limit and size, tables behind attributes, timestamps.
  pub requested-rows : T (all_right requested)
  -- R-3: "the modification time in whole minutes from 1 January 1970 UTC, as a signed number", and "32 bits each".
  pub minutes-start : minutes_before (moment 1970 1 1 0 0) ≡ 0
  pub minutes-rise : (t : Moment) → 1970 ≤ t.year → real t ≡ true → Risen t
  pub utc-rise : (t : Moment) (zone : ℤ) → 1970 ≤ t.year → real t ≡ true → utc_minutes (next_minute t) zone ≡ suc_ℤ (utc_minutes t zone)
  pub told-minutes : (s : List ℕ) → valid s ≡ true → to_z w32 (read_le 4 (told s) 0) ≡ minutes_of s
  pub told-mark : (s : List ℕ) → read_le 4 (told s) 4 ≡ marked (not_given (zone_of s))
  -- "A new call tells, for k saves back, the modification time".
  pub save-times : SaveTimes
  pub save-then-time : (d : Disc) (l : List ℕ) → AllBytes l → (c : Call) → saves c ≡ true → outcome d l c ≡ 0 → TellsTime (after d l c).disc 0 (saved_stamp c)
  -- R-4 changes no answer: that its table has the CRC of each byte is what `crc::by_table` shows of it.

  -- R-5: what a closing records before its table, and closed discs.
  pub tagged-anchor : (version : ℕ) (main reserve : Extent) (location : ℕ) → location < 4294967296 → (b : ℕ) → b ≤ location → location ≤ b + farthest_start
      → anchor_tagged (anchor version main reserve location) b ≡ true
  pub anchor-no-table : (version : ℕ) (main reserve : Extent) (location : ℕ) (lower : Lower) (b : ℕ) → is_table lower (anchor version main reserve location) b ≡ false
  pub zeros-no-table : (lower : Lower) (b : ℕ) → is_table lower (replicate sector_length 0) b ≡ false
  pub closed-discs : ClosedDiscs
  pub closing-rows : T (all_right closings)
  -- R-6: "an ordinary file entry", recorded and recognised.
  pub entry-reads-back : (kinds : List ℕ) (es : List Extent) (b : ℕ) → b < 4294967296 → 1 ≤ length es → length es ≤ most_extents → laid kinds b es ≡ true
      → (is_entry kinds (entry es b) b ≡ true) × (extents_of (entry es b) ≡ es)
  pub entry-recognised : (kinds s : List ℕ) (b : ℕ) → is_entry kinds s b ≡ true → Recognised kinds s b
  -- "A later save never alters what an earlier entry shows."
  pub entries-stay : EntriesStay
  pub earlier-entries : EarlierEntries
  -- A view in a list of events.
  pub views-in-lists : ViewsInLists
  pub unnumbered-rows : T (all_right unnumbered)
  -- R-7: "keeping it up on each call gives the same bytes as working it out afresh", and "the counts of the six recorded roles add up to recorded".
  pub space : Space
  -- "Each call that alters disc or ledger is lent these bytes too": what such calls leave is what every claim above speaks of.
  pub as-without-roles : AsWithoutRoles
  -- R-8: "no own sector that we record can pass for a table ICB or a closing's pointer", from any block behind what is recorded on.
  pub own-neither : (d : Disc) → Sound d → (map : List ℕ) (previous at : ℕ) → length (table_bytes map previous) ≤ most_bytes → every (unused_or_below (recorded d)) map ≡ true
      → unused_or_below (recorded d) previous ≡ true → recorded d ≤ at → at ≤ 400000 → NeitherFrom at (fresh_of d (table_bytes map previous) previous)
  -- R-8 in rows: tables in sectors of their own, recognised and not, and saves that record some.
  pub apart-rows : T (all_right apart)
