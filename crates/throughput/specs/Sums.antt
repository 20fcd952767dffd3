-- How checksums and totals grow. All numbers have 64 bits.
use Rattle.std.specs.Prelude.{ℕ, ◌+◌, ◌*◌, ◌%◌, ◌^◌, List, fold}
use Rattle.throughput.specs.declared.checksum.Checksum.{Checksum}
use Rattle.throughput.specs.declared.totals.Totals.{Totals}

-- a sum
abbrev pub plus : ℕ → ℕ → ℕ
plus a b = (a + b) % 2 ^ 64

-- one byte more: it counts as often as its place says
abbrev pub with_byte : ℕ → Checksum → Checksum
with_byte b s = record { count = plus s.count 1; sum = plus s.sum ((plus s.count 1 * b) % 2 ^ 64) }

-- these bytes more, in their order
abbrev pub with_bytes : List ℕ → Checksum → Checksum
with_bytes bs s = fold (λ t b. with_byte b t) s bs

-- the checksum of no bytes
abbrev pub blank : Checksum
blank = record { count = 0; sum = 0 }

-- two checksums together
abbrev pub joined : Checksum → Checksum → Checksum
joined s t = record { count = plus s.count t.count; sum = plus s.sum t.sum }

-- the totals of one chip
abbrev pub of_chip : ℕ → List ℕ → Checksum → ℕ → Totals
of_chip sent left received lost = record { chips = 1; sent = sent; left = with_bytes left blank; received = received; lost = lost }

-- two totals together
abbrev pub added : Totals → Totals → Totals
added s t = record {
  chips = plus s.chips t.chips;
  sent = plus s.sent t.sent;
  left = joined s.left t.left;
  received = joined s.received t.received;
  lost = plus s.lost t.lost;
}

-- the totals of no chip
abbrev pub none : Totals
none = record { chips = 0; sent = 0; left = blank; received = blank; lost = 0 }
