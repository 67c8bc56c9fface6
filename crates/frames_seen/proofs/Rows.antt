-- THE ROWS OF THE REGISTER ACCESS TABLE: each has the length of the access that means it, and what an access leaves.
use Rattle.std.proofs.Common.{◌≡◌, ℕ, ◌+◌, ◌%◌, ◌<◌, ◌==◌, ◌&&◌, Bool, true, false, not, List, [], ◌∷◌, ◌++◌, length, refl, ap, sym, ◌∙◌, subst, arith}
use Rattle.std.specs.Prelude.{Option, Some, None, if◌then◌else◌, is_some, unwrap_or}
use Rattle.std.proofs.lemmas.Bool.{eqb-true, and_parts}
use Rattle.slave_node.specs.of_datagrams.declared.head.Head.{Head}
use Rattle.slave_node.specs.of_esc_registers.declared.registers.Registers as Esc
use Rattle.slave_node.specs.of_esc_registers.declared.row.Row.{Row}
use Rattle.slave_node.specs.of_esc_registers.declared.row.Row.TheVariants.{Station, AlControl, AlStatus, AlStatusAndCode, AlStatusCode, Whole, Status, Activate, PdiControl, OutArea, InArea}
use Rattle.slave_node.specs.of_esc_registers.declared.row.Mailbox.TheVariants.{Outward, Inward}
use Rattle.byteorder.specs.Endian.{little_bytes}
use Rattle.slave_node.specs.of_esc_registers.Manager.{is_right, manager_text, status_of, pdi_control_of}
use Rattle.slave_node.specs.of_esc_registers.Access.{row_of, row_len, manager_of, read_row, behind_read, write_row, reads, writes, accessed, is_meant, is_by_place, passed_at, access}
use Rattle.frames_seen.specs.Kept.{FrameKeeps}

-- a row that was found has the length of the access
pub record HasLen (r : Esc.Registers) (len : ℕ) (found : Option Row) : Type 0 where
  pub len_is : (row : Row) → found ≡ Some row → row_len r row ≡ len

len_if : (r : Esc.Registers) (len : ℕ) (b : Bool) (row : Row) (others : Option Row) → (b ≡ true → row_len r row ≡ len) → HasLen r len others → HasLen r len (if b then Some row else others)
len_if r len b row others mine theirs = go b refl
  where
    go : (c : Bool) → b ≡ c → HasLen r len (if c then Some row else others)
    go true e = record { len_is = λ found is. let same : row ≡ found = cc in subst (λ x. row_len r x ≡ len) same (mine e) }
    go false e = theirs

module _ (r : Esc.Registers) (ado len : ℕ) where
  by_test : (a n : ℕ) → (ado == a && len == n) ≡ true → n ≡ len
  by_test a n e = sym (eqb-true len n (and_parts (ado == a) (len == n) e).1)

  none_len : HasLen r len None
  none_len = record { len_is = λ found is. absurd (cc) }

  abbrev row_14 : Option Row
  row_14 = if ado == 6144 && len == length r.in_manager.area then Some InArea else None

  len_14 : HasLen r len row_14
  len_14 = len_if r len (ado == 6144 && len == length r.in_manager.area) InArea None (by_test 6144 (length r.in_manager.area)) none_len

  abbrev row_13 : Option Row
  row_13 = if ado == 4096 && len == length r.out_manager.area then Some OutArea else row_14

  len_13 : HasLen r len row_13
  len_13 = len_if r len (ado == 4096 && len == length r.out_manager.area) OutArea row_14 (by_test 4096 (length r.out_manager.area)) len_14

  abbrev row_12 : Option Row
  row_12 = if ado == 2063 && len == 1 then Some (PdiControl Inward) else row_13

  len_12 : HasLen r len row_12
  len_12 = len_if r len (ado == 2063 && len == 1) (PdiControl Inward) row_13 (by_test 2063 (1)) len_13

  abbrev row_11 : Option Row
  row_11 = if ado == 2055 && len == 1 then Some (PdiControl Outward) else row_12

  len_11 : HasLen r len row_11
  len_11 = len_if r len (ado == 2055 && len == 1) (PdiControl Outward) row_12 (by_test 2055 (1)) len_12

  abbrev row_10 : Option Row
  row_10 = if ado == 2062 && len == 1 then Some (Activate Inward) else row_11

  len_10 : HasLen r len row_10
  len_10 = len_if r len (ado == 2062 && len == 1) (Activate Inward) row_11 (by_test 2062 (1)) len_11

  abbrev row_9 : Option Row
  row_9 = if ado == 2054 && len == 1 then Some (Activate Outward) else row_10

  len_9 : HasLen r len row_9
  len_9 = len_if r len (ado == 2054 && len == 1) (Activate Outward) row_10 (by_test 2054 (1)) len_10

  abbrev row_8 : Option Row
  row_8 = if ado == 2061 && len == 1 then Some (Status Inward) else row_9

  len_8 : HasLen r len row_8
  len_8 = len_if r len (ado == 2061 && len == 1) (Status Inward) row_9 (by_test 2061 (1)) len_9

  abbrev row_7 : Option Row
  row_7 = if ado == 2053 && len == 1 then Some (Status Outward) else row_8

  len_7 : HasLen r len row_7
  len_7 = len_if r len (ado == 2053 && len == 1) (Status Outward) row_8 (by_test 2053 (1)) len_8

  abbrev row_6 : Option Row
  row_6 = if ado == 2056 && len == 8 then Some (Whole Inward) else row_7

  len_6 : HasLen r len row_6
  len_6 = len_if r len (ado == 2056 && len == 8) (Whole Inward) row_7 (by_test 2056 (8)) len_7

  abbrev row_5 : Option Row
  row_5 = if ado == 2048 && len == 8 then Some (Whole Outward) else row_6

  len_5 : HasLen r len row_5
  len_5 = len_if r len (ado == 2048 && len == 8) (Whole Outward) row_6 (by_test 2048 (8)) len_6

  abbrev row_4 : Option Row
  row_4 = if ado == 308 && len == 2 then Some AlStatusCode else row_5

  len_4 : HasLen r len row_4
  len_4 = len_if r len (ado == 308 && len == 2) AlStatusCode row_5 (by_test 308 (2)) len_5

  abbrev row_3 : Option Row
  row_3 = if ado == 304 && len == 6 then Some AlStatusAndCode else row_4

  len_3 : HasLen r len row_3
  len_3 = len_if r len (ado == 304 && len == 6) AlStatusAndCode row_4 (by_test 304 (6)) len_4

  abbrev row_2 : Option Row
  row_2 = if ado == 304 && len == 2 then Some AlStatus else row_3

  len_2 : HasLen r len row_2
  len_2 = len_if r len (ado == 304 && len == 2) AlStatus row_3 (by_test 304 (2)) len_3

  abbrev row_1 : Option Row
  row_1 = if ado == 288 && len == 2 then Some AlControl else row_2

  len_1 : HasLen r len row_1
  len_1 = len_if r len (ado == 288 && len == 2) AlControl row_2 (by_test 288 (2)) len_2

  abbrev row_0 : Option Row
  row_0 = if ado == 16 && len == 2 then Some Station else row_1

  len_0 : HasLen r len row_0
  len_0 = len_if r len (ado == 16 && len == 2) Station row_1 (by_test 16 (2)) len_1

  pub row_has_len : HasLen r len (row_of r ado len)
  row_has_len = len_0

-- what a read gives has the length of its row
area_read : (r : Esc.Registers) (b : Bool) (body octets : List ℕ) → length r.in_manager.area ≡ length body → (if b then Some r.in_manager.area else None) ≡ Some octets → length octets ≡ length body
area_read r true body octets l e = let same : r.in_manager.area ≡ octets = cc in ap length (sym same) ∙ l
area_read r false body octets l e = absurd (cc)

same_len : (xs octets body : List ℕ) → Some xs ≡ Some octets → length xs ≡ length body → length octets ≡ length body
same_len xs octets body e l = let same : xs ≡ octets = cc in ap length (sym same) ∙ l

read_len : (r : Esc.Registers) (row : Row) (body octets : List ℕ) → row_len r row ≡ length body → read_row r row ≡ Some octets → length octets ≡ length body
read_len r Station body octets l e = same_len (little_bytes 2 r.station) octets body e l
read_len r AlControl body octets l e = same_len (little_bytes 2 r.al_control) octets body e l
read_len r AlStatus body octets l e = same_len (little_bytes 2 r.al_status) octets body e l
read_len r AlStatusAndCode body octets l e = same_len (little_bytes 2 r.al_status ++ (0 ∷ 0 ∷ little_bytes 2 r.al_code)) octets body e l
read_len r AlStatusCode body octets l e = same_len (little_bytes 2 r.al_code) octets body e l
read_len r (Whole mailbox) body octets l e = same_len (manager_text (manager_of r mailbox)) octets body e l
read_len r (Status mailbox) body octets l e = same_len (status_of (manager_of r mailbox) ∷ []) octets body e l
read_len r (Activate mailbox) body octets l e = same_len ((manager_of r mailbox).activate ∷ []) octets body e l
read_len r (PdiControl mailbox) body octets l e = same_len (pdi_control_of (manager_of r mailbox) ∷ []) octets body e l
read_len r OutArea body octets l e = absurd (cc)
read_len r InArea body octets l e = area_read r (is_right 6144 34 r.in_manager && r.in_manager.full) body octets l e

body_by : (read : Option (List ℕ)) (body : List ℕ) → ((octets : List ℕ) → read ≡ Some octets → length octets ≡ length body) → length (unwrap_or read body) ≡ length body
body_by None body f = refl
body_by (Some octets) body f = f octets refl

accessed_len : (r : Esc.Registers) (row : Row) (reading writing : Bool) (body : List ℕ) → row_len r row ≡ length body → length (accessed r row reading writing body).body ≡ length body
accessed_len r row true writing body l = body_by (read_row r row) body (λ octets e. read_len r row body octets l e)
accessed_len r row false writing body l = refl

passed_len : (r : Esc.Registers) (h : Head) (body : List ℕ) (row : Option Row) → HasLen r (length body) row → length (passed_at r h body row).body ≡ length body
passed_len r h body None has = refl
passed_len r h body (Some row) has = accessed_len r row (reads h.command) (writes h.command) body (has.len_is row refl)

has_meant : (r : Esc.Registers) (h : Head) (body : List ℕ) (b : Bool) → HasLen r (length body) (if b then row_of r h.ado (length body) else None)
has_meant r h body true = row_has_len r h.ado (length body)
has_meant r h body false = none_len r h.ado (length body)

-- AN ACCESS keeps the length of its body
pub access_len : (r : Esc.Registers) (h : Head) (body : List ℕ) → length (access r h body).body ≡ length body
access_len r h body = passed_len r h body (if is_meant r h then row_of r h.ado (length body) else None) (has_meant r h body (is_meant r h))

-- and leaves what only the slave writes
kept_still : (r : Esc.Registers) → FrameKeeps r r
kept_still r = record { status = refl; code = refl; outward = refl; inward = refl }

pub keeps_both : (r p q : Esc.Registers) → FrameKeeps r p → FrameKeeps p q → FrameKeeps r q
keeps_both r p q a b = record { status = b.status ∙ a.status; code = b.code ∙ a.code; outward = b.outward ∙ a.outward; inward = b.inward ∙ a.inward }

read_keeps : (r : Esc.Registers) (row : Row) → FrameKeeps r (behind_read r row)
read_keeps r InArea = record { status = refl; code = refl; outward = refl; inward = refl }
read_keeps r row = kept_still r

out_written : (r q : Esc.Registers) (b : Bool) (body : List ℕ) → length r.out_manager.area ≡ length body → (if b then Some (record r { out_manager = record r.out_manager { area = body; full = true } }) else None) ≡ Some q → FrameKeeps r q
out_written r q true body l e =
    let same : record r { out_manager = record r.out_manager { area = body; full = true } } ≡ q = cc in
    subst (λ x. FrameKeeps r x) same (record { status = refl; code = refl; outward = sym l; inward = refl })
out_written r q false body l e = absurd (cc)

is_kept : (r p q : Esc.Registers) → FrameKeeps r p → Some p ≡ Some q → FrameKeeps r q
is_kept r p q keeps e = let same : p ≡ q = cc in subst (λ x. FrameKeeps r x) same keeps

write_keeps : (r q : Esc.Registers) (row : Row) (body : List ℕ) → row_len r row ≡ length body → write_row r row body ≡ Some q → FrameKeeps r q
write_keeps r q Station body l e = is_kept r _ q (record { status = refl; code = refl; outward = refl; inward = refl }) e
write_keeps r q AlControl body l e = is_kept r _ q (record { status = refl; code = refl; outward = refl; inward = refl }) e
write_keeps r q AlStatus body l e = absurd (cc)
write_keeps r q AlStatusAndCode body l e = absurd (cc)
write_keeps r q AlStatusCode body l e = absurd (cc)
write_keeps r q (Whole Outward) body l e = is_kept r _ q (record { status = refl; code = refl; outward = refl; inward = refl }) e
write_keeps r q (Whole Inward) body l e = is_kept r _ q (record { status = refl; code = refl; outward = refl; inward = refl }) e
write_keeps r q (Status mailbox) body l e = absurd (cc)
write_keeps r q (Activate Outward) body l e = is_kept r _ q (record { status = refl; code = refl; outward = refl; inward = refl }) e
write_keeps r q (Activate Inward) body l e = is_kept r _ q (record { status = refl; code = refl; outward = refl; inward = refl }) e
write_keeps r q (PdiControl mailbox) body l e = absurd (cc)
write_keeps r q OutArea body l e = out_written r q (is_right 4096 38 r.out_manager && not r.out_manager.full) body l e
write_keeps r q InArea body l e = absurd (cc)

-- a row has the same length behind a read
len_behind : (r : Esc.Registers) (row row_read : Row) → row_len (behind_read r row_read) row ≡ row_len r row
len_behind r OutArea InArea = refl
len_behind r InArea InArea = refl
len_behind r Station row_read = refl
len_behind r AlControl row_read = refl
len_behind r AlStatus row_read = refl
len_behind r AlStatusAndCode row_read = refl
len_behind r AlStatusCode row_read = refl
len_behind r (Whole mailbox) row_read = refl
len_behind r (Status mailbox) row_read = refl
len_behind r (Activate mailbox) row_read = refl
len_behind r (PdiControl mailbox) row_read = refl
len_behind r OutArea row_read = refl
len_behind r InArea row_read = refl

written_by : (r p : Esc.Registers) (written : Option Esc.Registers) → FrameKeeps r p → ((q : Esc.Registers) → written ≡ Some q → FrameKeeps p q) → FrameKeeps r (unwrap_or written p)
written_by r p None first next = first
written_by r p (Some q) first next = keeps_both r p q first (next q refl)

accessed_keeps : (r : Esc.Registers) (row : Row) (reading writing : Bool) (body : List ℕ) → row_len r row ≡ length body → FrameKeeps r (accessed r row reading writing body).registers
accessed_keeps r row reading writing body l = go (is_some (if reading then read_row r row else None)) writing
  where
    before : (b : Bool) → FrameKeeps r (if b then behind_read r row else r)
    before true = read_keeps r row
    before false = kept_still r

    len : (b : Bool) → row_len (if b then behind_read r row else r) row ≡ length body
    len true = len_behind r row row ∙ l
    len false = l

    go : (b w : Bool) → FrameKeeps r (unwrap_or (if w then write_row (if b then behind_read r row else r) row body else None) (if b then behind_read r row else r))
    go b true = written_by r (if b then behind_read r row else r) (write_row (if b then behind_read r row else r) row body) (before b) (λ q e. write_keeps (if b then behind_read r row else r) q row body (len b) e)
    go b false = before b

passed_keeps : (r : Esc.Registers) (h : Head) (body : List ℕ) (row : Option Row) → HasLen r (length body) row → FrameKeeps r (passed_at r h body row).registers
passed_keeps r h body None has = kept_still r
passed_keeps r h body (Some row) has = accessed_keeps r row (reads h.command) (writes h.command) body (has.len_is row refl)

pub access_keeps : (r : Esc.Registers) (h : Head) (body : List ℕ) → FrameKeeps r (access r h body).registers
access_keeps r h body = passed_keeps r h body (if is_meant r h then row_of r h.ado (length body) else None) (has_meant r h body (is_meant r h))

-- ADP and counter behind an access stay 16 bits
adp_by : (h : Head) (b : Bool) → h.adp < 65536 → (if b then record h { adp = (h.adp + 1) % 65536 } else h).adp < 65536
adp_by h true low = omega arith
adp_by h false low = low

counter_by : (h : Head) (b : Bool) → h.counter < 65536 → (if b then record h { adp = (h.adp + 1) % 65536 } else h).counter < 65536
counter_by h true low = low
counter_by h false low = low

pub access_adp : (r : Esc.Registers) (h : Head) (body : List ℕ) → h.adp < 65536 → (access r h body).head.adp < 65536
access_adp r h body low = go (if is_meant r h then row_of r h.ado (length body) else None)
  where
    go : (row : Option Row) → (passed_at r h body row).head.adp < 65536
    go None = adp_by h (is_by_place h.command) low
    go (Some row) = adp_by h (is_by_place h.command) low

pub access_counter : (r : Esc.Registers) (h : Head) (body : List ℕ) → h.counter < 65536 → (access r h body).head.counter < 65536
access_counter r h body low = go (if is_meant r h then row_of r h.ado (length body) else None)
  where
    go : (row : Option Row) → (passed_at r h body row).head.counter < 65536
    go None = counter_by h (is_by_place h.command) low
    go (Some row) = omega arith
