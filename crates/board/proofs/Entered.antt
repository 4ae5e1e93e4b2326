-- A record changes the bytes of a board as `placed` changes what the board holds. The slots of lower jobs stay the
-- same. If there is a slot of the record's job, the record is joined to it (`enters_slot`). Otherwise, if a slot is
-- free, the later slots move up and the record gets a slot of its own (`enters_new`). If no slot is free, the record is
-- refused with B3 (`enters_none`). `goes` collects these cases for the routes of `route_of`.
use mathlib.Core.Path.{◌≡◌, refl, sym, ap, ◌∙◌}
use mathlib.Core.Bool.{Bool, true, false, cond, ◌&&◌}
use mathlib.Core.List.{List, [], ◌∷◌, ◌++◌, append_assoc, append-nil}
use mathlib.Core.Logic.{◌⊎◌, inl, inr}
use Prim.Native.Nat.{ℕ, zero, suc, ◌+◌, ◌-◌, ◌*◌, ◌≤◌, ◌<◌}
use native.Mathlib.Omega.{arith}
use borrow.Author.Tests.{ltb-true, ltb-false, lt-ltb, le-ltb, eqb-true, eqb-false, eq-eqb, ne_eqb}
use borrow.Rule.Slice.PartMut.{mid_of, put_mid}
use lib.Dec.{ltb, eqb}
use lib.ListN.{length, take, drop, length-append, length-drop, length-replicate, take-append-drop, replicate-append-replicate}
use lib.Seq.{take_at, drop_at, drop-drop, take-append-le, length-take-le, take-take}
use Rattle.records.specs.Layout.{Field, LENGTH, JOB, answer_room, value_of, job_of}
use Rattle.slots.specs.Slots.{padded, slot_of, content_of, is_held}
use Rattle.little_endian.proofs.Same.{number_take}
use Rattle.slots.proofs.Padding.{padded_length}
use Rattle.slots.proofs.Zeros.{zeros_zero, zero_number}
use Rattle.slots.proofs.Held.{slot_named, slot_job, content_back}
use Rattle.board.specs.declared.moves.Route.{Route}
use Rattle.board.specs.declared.moves.Route.TheVariants.{Joins, Enters, NoneFree}
use Rattle.board.specs.declared.PostError.{PostError}
use Rattle.board.specs.declared.PostError.TheVariants.{NoSlotFree}
use Rattle.std.specs.Prelude.{Result, Ok, Err}
use Rattle.board.specs.Board.{SLOTS, board_size, is_board, held_on, slots_bytes, board_of, joined, placed, placed_on}
use Rattle.board.specs.Board.{HeldRising, next}
use Rattle.board.specs.Internals.{slots_while, slots_before_free, slots_below, route_of, moved_up}
use Rattle.board.proofs.Boards.{one_more, zeros, padded_append, slots_in, slots_next, slots_none, board_held}

-- ---- the bytes of consecutive slots

slots_join : (pre post : List (List ℕ)) → slots_bytes (pre ++ post) ≡ slots_bytes pre ++ slots_bytes post
unfolding slots_bytes
slots_join [] post = refl
slots_join (c ∷ cs) post =
    ap (λ l. slot_of c ++ l) (slots_join cs post) ∙ sym (append_assoc (slot_of c) (slots_bytes cs) (slots_bytes post))

slots_size : (cs : List (List ℕ)) → length (slots_bytes cs) ≡ length cs * answer_room
unfolding slots_bytes
slots_size [] = refl
slots_size (c ∷ cs) = length-append (slot_of c) (slots_bytes cs) ∙ omega (arith, padded_length answer_room c, slots_size cs)

slots_append : (m : ℕ) (pre post : List (List ℕ)) → slots_in (length pre + m) (pre ++ post) ≡ slots_bytes pre ++ slots_in m post
unfolding slots_in
slots_append m pre post =
    ap (λ l. padded ((length pre + m) * answer_room) l) (slots_join pre post)
    ∙ ap (λ (k : ℕ). padded k (slots_bytes pre ++ slots_bytes post)) (sum (length pre) m)
    ∙ padded_append (length pre * answer_room) (m * answer_room) (slots_bytes pre) (slots_bytes post) (slots_size pre)
  where
    sum : (a b : ℕ) → (a + b) * answer_room ≡ a * answer_room + b * answer_room
    sum a b = omega arith

-- The slot that follows the slots of `pre`: its bytes (`the_slot`), and the bytes after another content is written to
-- it (`put_slot`).
module _ (m : ℕ) (pre post : List (List ℕ)) where
  around : (c : List ℕ) → slots_in (length pre + suc m) (pre ++ (c ∷ post)) ≡ slots_bytes pre ++ (slot_of c ++ slots_in m post)
  around c = slots_append (suc m) pre (c ∷ post) ∙ ap (λ l. slots_bytes pre ++ l) (slots_next m c post)

  from_slot : (c : List ℕ)
      → drop (length pre * answer_room) (slots_in (length pre + suc m) (pre ++ (c ∷ post))) ≡ slot_of c ++ slots_in m post
  from_slot c =
      ap (drop (length pre * answer_room)) (around c)
      ∙ drop_at (slots_bytes pre) (slot_of c ++ slots_in m post) (length pre * answer_room) (slots_size pre)

  the_slot : (c : List ℕ) → mid_of (length pre * answer_room) answer_room (slots_in (length pre + suc m) (pre ++ (c ∷ post))) ≡ slot_of c
  the_slot c = ap (take answer_room) (from_slot c) ∙ take_at (slot_of c) (slots_in m post) answer_room (padded_length answer_room c)

  put_slot : (c x : List ℕ)
      → put_mid (length pre * answer_room) answer_room (slots_in (length pre + suc m) (pre ++ (c ∷ post))) (slot_of x)
      ≡ slots_in (length pre + suc m) (pre ++ (x ∷ post))
  put_slot c x =
      let before : take (length pre * answer_room) (slots_in (length pre + suc m) (pre ++ (c ∷ post))) ≡ slots_bytes pre =
      ap (take (length pre * answer_room)) (around c)
      ∙ take_at (slots_bytes pre) (slot_of c ++ slots_in m post) (length pre * answer_room) (slots_size pre) in
      let behind : drop answer_room (drop (length pre * answer_room) (slots_in (length pre + suc m) (pre ++ (c ∷ post))))
      ≡ slots_in m post =
      ap (drop answer_room) (from_slot c) ∙ drop_at (slot_of c) (slots_in m post) answer_room (padded_length answer_room c) in
      rw (before, behind) (sym (around x))

-- Moving Q up by one slot, over zs, and writing X into the gap inserts X between P and Q.
put_moved : (p q : ℕ) (P Q zs Z X : List ℕ) → length P ≡ p → length Q ≡ q → length zs ≡ answer_room →
    put_mid p answer_room (moved_up p (p + q) (P ++ (Q ++ (zs ++ Z)))) X ≡ P ++ (X ++ (Q ++ Z))
unfolding moved_up
put_moved p q P Q zs Z X hp hq hz =
    let b = P ++ (Q ++ (zs ++ Z)) in
    let first = take (p + answer_room) b in
    let long : length first ≡ p + answer_room =
    length-take-le (p + answer_room) b
    (omega (arith, length-append P (Q ++ (zs ++ Z)), length-append Q (zs ++ Z), length-append zs Z, hp, hq, hz)) in
    let middle : take (p + q - p) (drop p b) ≡ Q = rw (drop_at P (Q ++ (zs ++ Z)) p hp, back p q) (take_at Q (zs ++ Z) q hq) in
    let last : drop (p + q + answer_room) b ≡ Z =
    sym (drop-drop answer_room (p + q) b) ∙ ap (drop answer_room) (sym (drop-drop q p b))
    ∙ ap (λ l. drop answer_room (drop q l)) (drop_at P (Q ++ (zs ++ Z)) p hp) ∙ ap (drop answer_room) (drop_at Q (zs ++ Z) q hq)
    ∙ drop_at zs Z answer_room hz in
    let whole : first ++ take (p + q - p) (drop p b) ++ drop (p + q + answer_room) b ≡ first ++ (Q ++ Z) =
    rw (middle, last) (append_assoc first Q Z) in
    let before : take p (first ++ (Q ++ Z)) ≡ P =
    take-append-le p first (Q ++ Z) (omega (arith, long)) ∙ take-take p (p + answer_room) b (omega arith)
    ∙ take_at P (Q ++ (zs ++ Z)) p hp in
    let behind : drop answer_room (drop p (first ++ (Q ++ Z))) ≡ Q ++ Z =
    drop-drop answer_room p (first ++ (Q ++ Z)) ∙ drop_at first (Q ++ Z) (p + answer_room) long in
    ap (λ (l : List ℕ). put_mid p answer_room l X) whole ∙ rw (before, behind) refl
  where
    back : (a b : ℕ) → a + b - a ≡ b
    back a b = omega arith

-- Moving the slots of `post` up by one slot and writing a slot for x into the gap inserts it between `pre` and `post`.
put_between : (m : ℕ) (pre post : List (List ℕ)) (x : List ℕ) →
    let n = length pre + (length post + suc m) in
    put_mid (length pre * answer_room) answer_room
    (moved_up (length pre * answer_room) (length pre * answer_room + length post * answer_room) (slots_in n (pre ++ post))) (slot_of x)
    ≡ slots_in n (pre ++ (x ∷ post))
put_between m pre post x =
    ap (λ (l : List ℕ). put_mid (length pre * answer_room) answer_room
    (moved_up (length pre * answer_room) (length pre * answer_room + length post * answer_room) l) (slot_of x)) start
    ∙ put_moved (length pre * answer_room) (length post * answer_room) (slots_bytes pre) (slots_bytes post) (zeros answer_room)
    (zeros (m * answer_room)) (slot_of x) (slots_size pre) (slots_size post) (length-replicate {A = ℕ} answer_room 0)
    ∙ sym end
  where
    tail : (k : ℕ) → slots_in (length post + k) post ≡ slots_bytes post ++ zeros (k * answer_room)
    tail k =
        ap (slots_in (length post + k)) (sym (append-nil post)) ∙ slots_append k post [] ∙ ap (λ l. slots_bytes post ++ l) (slots_none k)

    zeros_more : zeros (suc m * answer_room) ≡ zeros answer_room ++ zeros (m * answer_room)
    zeros_more = ap zeros (one_more m) ∙ sym (replicate-append-replicate {A = ℕ} answer_room (m * answer_room) 0)

    start : slots_in (length pre + (length post + suc m)) (pre ++ post)
        ≡ slots_bytes pre ++ (slots_bytes post ++ (zeros answer_room ++ zeros (m * answer_room)))
    start =
        slots_append (length post + suc m) pre post
        ∙ ap (λ l. slots_bytes pre ++ l) (tail (suc m) ∙ ap (λ l. slots_bytes post ++ l) zeros_more)

    shift : (a b : ℕ) → a + suc b ≡ suc (a + b)
    shift a b = omega arith

    end : slots_in (length pre + (length post + suc m)) (pre ++ (x ∷ post))
        ≡ slots_bytes pre ++ (slot_of x ++ (slots_bytes post ++ zeros (m * answer_room)))
    end =
        ap (λ (k : ℕ). slots_in (length pre + k) (pre ++ (x ∷ post))) (shift (length post) m) ∙ around (length post + m) pre post x
        ∙ ap (λ l. slots_bytes pre ++ (slot_of x ++ l)) (tail m)

-- ---- the index of a record among what is held

below : List (List ℕ) → ℕ → ℕ
below [] job = 0
below (c ∷ cs) job = cond (ltb (job_of c) job) (suc (below cs job)) 0

below_le : (cs : List (List ℕ)) (job : ℕ) → below cs job ≤ length cs
unfolding below
below_le [] job = omega arith
below_le (c ∷ cs) job = by (below_le cs job) (ltb (job_of c) job)
  where
    by : below cs job ≤ length cs → (t : Bool) → cond t (suc (below cs job)) 0 ≤ suc (length cs)
    by h true = omega arith
    by h false = omega arith

-- What is held from that index on, after the record is placed.
settled : List (List ℕ) → List ℕ → List (List ℕ)
settled [] new = new ∷ []
settled (c ∷ cs) new = cond (eqb (job_of c) (job_of new)) (joined c new ∷ cs) (new ∷ c ∷ cs)

placed_settled : (cs : List (List ℕ)) (new : List ℕ)
    → placed cs new ≡ take (below cs (job_of new)) cs ++ settled (drop (below cs (job_of new)) cs) new
unfolding placed below settled
placed_settled [] new = refl
placed_settled (c ∷ cs) new = by (placed_settled cs new) (ltb (job_of c) (job_of new))
  where
    by : placed cs new ≡ take (below cs (job_of new)) cs ++ settled (drop (below cs (job_of new)) cs) new → (t : Bool) →
        cond t (c ∷ placed cs new) (cond (eqb (job_of c) (job_of new)) (joined c new ∷ cs) (new ∷ c ∷ cs))
        ≡ take (cond t (suc (below cs (job_of new))) 0) (c ∷ cs) ++ settled (drop (cond t (suc (below cs (job_of new))) 0) (c ∷ cs)) new
    by e true = ap (λ l. c ∷ l) e
    by e false = refl

-- ---- what the code counts and reads in the bytes

first_slot : (f : Field) (c rest : List ℕ) → f.offset + f.width ≤ answer_room → value_of f (slot_of c ++ rest) ≡ value_of f (slot_of c)
first_slot f c rest h =
    sym (number_take f.width answer_room f.offset (slot_of c ++ rest) h)
    ∙ ap (value_of f) (take_at (slot_of c) rest answer_room (padded_length answer_room c))

behind_slot : (c rest : List ℕ) → drop answer_room (slot_of c ++ rest) ≡ rest
behind_slot c rest = drop_at (slot_of c) rest answer_room (padded_length answer_room c)

slots_named : (n above : ℕ) (cs : List (List ℕ)) → HeldRising above cs → length cs ≤ n → slots_before_free n (slots_in n cs) ≡ length cs
unfolding slots_while
slots_named zero above [] r h = refl
slots_named zero above (c ∷ cs) r h = absurd (omega arith)
slots_named (suc n) above [] r h =
    let size = suc n * answer_room in
    let zero-length = zero_number (zeros size) (zeros_zero size) LENGTH.width LENGTH.offset in
    let z : value_of LENGTH (slots_in (suc n) []) ≡ 0 = ap (value_of LENGTH) (slots_none (suc n)) ∙ zero-length in
    rw (eq-eqb (value_of LENGTH (slots_in (suc n) [])) 0 z) refl
slots_named (suc n) above (c ∷ cs) (next low held r) h =
    let rest = slots_in n cs in
    let more = slots_named n (job_of c) cs r (omega arith) in
    let first = first_slot LENGTH c rest (omega arith) in
    let named : eqb (value_of LENGTH (slot_of c ++ rest)) 0 ≡ false =
    ne_eqb (value_of LENGTH (slot_of c ++ rest)) 0 (λ e. slot_named c held (sym first ∙ e)) in
    rw (slots_next n c cs, named, behind_slot c rest) (ap suc more)

slots_below_lem : (n job : ℕ) (cs : List (List ℕ)) → length cs ≤ n → slots_below (length cs) job (slots_in n cs) ≡ below cs job
unfolding slots_while below
slots_below_lem n job [] h = refl
slots_below_lem zero job (c ∷ cs) h = absurd (omega arith)
slots_below_lem (suc n) job (c ∷ cs) h =
    let rest = slots_in n cs in
    let more = slots_below_lem n job cs (omega arith) in
    let its-job = first_slot JOB c rest (omega arith) ∙ slot_job c in
    rw (slots_next n c cs, its-job, behind_slot c rest) (ap (λ (k : ℕ). cond (ltb (job_of c) job) (suc k) 0) more)

nothing : {c : List ℕ} {post : List (List ℕ)} → ◌≡◌ {A = List (List ℕ)} [] (c ∷ post) → ⊥
nothing f = let z : ◌≡◌ {A = ℕ} 0 1 = cc in omega arith

rising_held : (above k : ℕ) (cs : List (List ℕ)) {c : List ℕ} {post : List (List ℕ)} → HeldRising above cs → drop k cs ≡ c ∷ post
    → is_held c ≡ true
rising_held above zero [] r e = absurd (nothing e)
rising_held above zero (d ∷ ds) {c} (next low held r) e = let same : d ≡ c = cc in rw same at held
rising_held above (suc k) [] r e = absurd (nothing e)
rising_held above (suc k) (d ∷ ds) (next low held r) e = rising_held (job_of d) k ds r e

-- ---- a record that is posted on a board

-- The slot with index i is not that of the record's job: i is past the filled slots, or the slot has another job.
abbrev NotThere : List ℕ → List ℕ → ℕ → Type 0
NotThere b new i = (slots_before_free SLOTS b ≤ i) ⊎ (job_of (drop (i * answer_room) b) ≡ job_of new → ⊥)

-- The returned value and the bytes after the call are those that `placed_on` gives.
abbrev pub Gives : List ℕ → List ℕ → Result Unit PostError → List ℕ → Type 0
Gives b new posted after = (posted ≡ (placed_on b new).posted) × (after ≡ (placed_on b new).board)

module _ (b new : List ℕ) (board : is_board b ≡ true) where
  abbrev cs : List (List ℕ)
  cs = held_on b

  abbrev place : ℕ
  place = below cs (job_of new)

  abbrev pre : List (List ℕ)
  pre = take place cs

  few : length cs ≤ SLOTS
  few = (board_held b board).1.0

  bytes : b ≡ slots_in SLOTS cs
  unfolding board_of slots_in
  bytes = (board_held b board).1.1

  filled_is : slots_before_free SLOTS b ≡ length cs
  filled_is = ap (slots_before_free SLOTS) bytes ∙ slots_named SLOTS 0 cs (board_held b board).0 few

  place_is : slots_below (slots_before_free SLOTS b) (job_of new) b ≡ place
  place_is =
      ap (λ (n : ℕ). slots_below n (job_of new) b) filled_is ∙ ap (slots_below (length cs) (job_of new)) bytes
      ∙ slots_below_lem SLOTS (job_of new) cs few

  pre_size : length pre ≡ place
  pre_size = length-take-le place cs (below_le cs (job_of new))

  taken : (held : List (List ℕ)) → placed cs new ≡ held → length held ≤ SLOTS → Gives b new (Ok tt) (board_of held)
  unfolding placed_on
  taken held e h = rw (e, le-ltb SLOTS (length held) h) (refl, refl)

  -- ---- the slot at the record's index
  module _ (c : List ℕ) (post : List (List ℕ)) (e : drop place cs ≡ c ∷ post) where
    after : length cs ≡ place + suc (length post)
    after = omega (arith, length-drop place cs, ap length e, below_le cs (job_of new))

    these : cs ≡ pre ++ (c ∷ post)
    these = sym (take-append-drop place cs) ∙ ap (λ l. pre ++ l) e

    free : SLOTS ≡ length pre + suc (SLOTS - suc place)
    free = omega (arith, pre_size, after, few)

    shown : b ≡ slots_in (length pre + suc (SLOTS - suc place)) (pre ++ (c ∷ post))
    shown = bytes ∙ ap (slots_in SLOTS) these ∙ ap (λ (n : ℕ). slots_in n (pre ++ (c ∷ post))) free

    here : mid_of (place * answer_room) answer_room b ≡ slot_of c
    here =
        ap (λ (n : ℕ). mid_of (n * answer_room) answer_room b) (sym pre_size)
        ∙ ap (mid_of (length pre * answer_room) answer_room) shown
        ∙ the_slot (SLOTS - suc place) pre post c

    job_here : job_of (drop (place * answer_room) b) ≡ job_of c
    job_here =
        sym (number_take JOB.width answer_room JOB.offset (drop (place * answer_room) b) (omega arith))
        ∙ ap job_of here
        ∙ slot_job c

    put_here : (x : List ℕ) → put_mid (place * answer_room) answer_room b (slot_of x) ≡ board_of (pre ++ (x ∷ post))
    unfolding board_of slots_in
    put_here x =
        ap (λ (n : ℕ). put_mid (n * answer_room) answer_room b (slot_of x)) (sym pre_size)
        ∙ ap (λ (l : List ℕ). put_mid (length pre * answer_room) answer_room l (slot_of x)) shown
        ∙ put_slot (SLOTS - suc place) pre post c x
        ∙ ap (λ (n : ℕ). slots_in n (pre ++ (x ∷ post))) (sym free)

  -- ---- the three cases, at the index that the code finds
  module _ (i : ℕ) (at : i ≡ slots_below (slots_before_free SLOTS b) (job_of new) b) where
    found : i ≡ place
    found = at ∙ place_is

    pub record JoinsHere : Type 0 where
      pub ready : mid_of (i * answer_room) answer_room b ≡ slot_of (content_of (mid_of (i * answer_room) answer_room b))
      pub done : (s : List ℕ) → s ≡ slot_of (joined (content_of (mid_of (i * answer_room) answer_room b)) new)
          → Gives b new (Ok tt) (put_mid (i * answer_room) answer_room b s)

    enters_slot : i < slots_before_free SLOTS b → job_of (drop (i * answer_room) b) ≡ job_of new → JoinsHere
    unfolding settled
    enters_slot low same = by (drop place cs) refl
      where
        by : (l : List (List ℕ)) → drop place cs ≡ l → JoinsHere
        by [] e = absurd (omega (arith, length-drop place cs, ap length e, found, low, filled_is))
        by (c ∷ post) e =
            let held : is_held c ≡ true = rising_held 0 place cs (board_held b board).0 e in
            let slot : mid_of (i * answer_room) answer_room b ≡ slot_of c =
            ap (λ (n : ℕ). mid_of (n * answer_room) answer_room b) found ∙ here c post e in
            let content : content_of (mid_of (i * answer_room) answer_room b) ≡ c = ap content_of slot ∙ content_back c held in
            let its : job_of c ≡ job_of new = sym (job_here c post e) ∙ ap (λ (n : ℕ). job_of (drop (n * answer_room) b)) (sym found)
            ∙ same in
            let whole : placed cs new ≡ pre ++ (joined c new ∷ post) =
            placed_settled cs new ∙ rw (e, eq-eqb (job_of c) (job_of new) its) refl in
            let size : length (pre ++ (joined c new ∷ post)) ≤ SLOTS =
            omega (arith, length-append pre (joined c new ∷ post), pre_size, after c post e, few) in
            let go = taken (pre ++ (joined c new ∷ post)) whole size in
            record {
              ready = slot ∙ ap slot_of (sym content);
              done = λ s f. (
                go.0,
                ap (λ (l : List ℕ). put_mid (i * answer_room) answer_room b l) (f ∙ ap (λ (x : List ℕ). slot_of (joined x new)) content)
                    ∙ ap (λ (n : ℕ). put_mid (n * answer_room) answer_room b (slot_of (joined c new))) found
                    ∙ put_here c post e (joined c new)
                    ∙ go.1,
              );
            }

    not_there : NotThere b new i → settled (drop place cs) new ≡ new ∷ drop place cs
    unfolding settled
    not_there h = by (drop place cs) refl
      where
        by : (l : List (List ℕ)) → drop place cs ≡ l → settled l new ≡ new ∷ l
        by [] e = refl
        by (c ∷ post) e = rw (ne_eqb (job_of c) (job_of new) (other h)) refl
          where
            other : NotThere b new i → job_of c ≡ job_of new → ⊥
            other (inl low) f = omega (arith, after c post e, found, low, filled_is)
            other (inr differs) f = differs (ap (λ (n : ℕ). job_of (drop (n * answer_room) b)) found ∙ job_here c post e ∙ f)

    whole : NotThere b new i → placed cs new ≡ pre ++ (new ∷ drop place cs)
    whole h = placed_settled cs new ∙ ap (λ l. pre ++ l) (not_there h)

    post_size : length (drop place cs) ≡ length cs - place
    post_size = length-drop place cs

    one_held_more : length (pre ++ (new ∷ drop place cs)) ≡ suc (length cs)
    one_held_more = length-append pre (new ∷ drop place cs) ∙ omega (arith, pre_size, post_size, below_le cs (job_of new))

    enters_none : NotThere b new i → slots_before_free SLOTS b ≡ SLOTS → Gives b new (Err NoSlotFree) b
    unfolding placed_on
    enters_none h full =
        rw (whole h, lt-ltb SLOTS (length (pre ++ (new ∷ drop place cs))) (omega (arith, one_held_more, filled_is, full))) (refl, refl)

    enters_new : NotThere b new i → slots_before_free SLOTS b < SLOTS
        → let free = slots_before_free SLOTS b in
        Gives b new (Ok tt) (put_mid (i * answer_room) answer_room (moved_up (i * answer_room) (free * answer_room) b) (slot_of new))
    unfolding board_of slots_in
    enters_new h room =
        let post = drop place cs in
        let m = SLOTS - suc (length cs) in
        let total : SLOTS ≡ length pre + (length post + suc m) =
        omega (arith, pre_size, post_size, below_le cs (job_of new), filled_is, room) in
        let from : i * answer_room ≡ length pre * answer_room = ap (λ (n : ℕ). n * answer_room) (found ∙ sym pre_size) in
        let sum : slots_before_free SLOTS b ≡ length pre + length post =
        omega (arith, pre_size, post_size, below_le cs (job_of new), filled_is) in
        let to : slots_before_free SLOTS b * answer_room ≡ length pre * answer_room + length post * answer_room =
        ap (λ (n : ℕ). n * answer_room) sum ∙ times (length pre) (length post) in
        let shown : b ≡ slots_in (length pre + (length post + suc m)) (pre ++ post) =
        bytes ∙ ap (slots_in SLOTS) (sym (take-append-drop place cs)) ∙ ap (λ (n : ℕ). slots_in n (pre ++ post)) total in
        let go = taken (pre ++ (new ∷ post)) (whole h) (omega (arith, one_held_more, filled_is, room)) in (
          go.0,
          ap (λ (n : ℕ). put_mid n answer_room (moved_up n (slots_before_free SLOTS b * answer_room) b) (slot_of new)) from
              ∙ ap (λ (n : ℕ). put_mid (length pre * answer_room) answer_room (moved_up (length pre * answer_room) n b) (slot_of new)) to
              ∙ ap (λ (l : List ℕ). put_mid (length pre * answer_room) answer_room
              (moved_up (length pre * answer_room) (length pre * answer_room + length post * answer_room) l) (slot_of new)) shown
              ∙ put_between m pre post new
              ∙ ap (λ (n : ℕ). slots_in n (pre ++ (new ∷ post))) (sym total)
              ∙ go.1,
        )
      where
        times : (x y : ℕ) → (x + y) * answer_room ≡ x * answer_room + y * answer_room
        times x y = omega arith

-- What `place` needs to know about each route: its slices are within the board, a slot that is joined meets the
-- precondition of `join`, and the steps of the route give what `placed_on` says.
pub record JoinsAt (b new : List ℕ) (from : ℕ) : Type 0 where
  pub fits : from + answer_room ≤ board_size
  pub ready : mid_of from answer_room b ≡ slot_of (content_of (mid_of from answer_room b))
  pub done : (s : List ℕ) → s ≡ slot_of (joined (content_of (mid_of from answer_room b)) new)
      → Gives b new (Ok tt) (put_mid from answer_room b s)

pub record EntersAt (b new : List ℕ) (from end : ℕ) : Type 0 where
  pub rising : from ≤ end
  pub fits : end + answer_room ≤ board_size
  pub done : Gives b new (Ok tt) (put_mid from answer_room (moved_up from end b) (slot_of new))

abbrev pub Goes : List ℕ → List ℕ → Route → Type 0
Goes b new (Joins from) = JoinsAt b new from
Goes b new (Enters from end) = EntersAt b new from end
Goes b new NoneFree = Gives b new (Err NoSlotFree) b

pub goes : (b new : List ℕ) → is_board b ≡ true → Goes b new (route_of b (job_of new))
unfolding route_of
goes b new board = by (ltb i n) (eqb here (job_of new)) (eqb n SLOTS) refl refl refl
  where
    n : ℕ
    n = slots_before_free SLOTS b

    i : ℕ
    i = slots_below n (job_of new) b

    here : ℕ
    here = job_of (drop (i * answer_room) b)

    within : i ≤ n
    within = omega (arith, place_is b new board, below_le (held_on b) (job_of new), filled_is b new board)

    most : n ≤ SLOTS
    most = omega (arith, filled_is b new board, few b new board)

    beyond : NotThere b new i → (t : Bool) → eqb n SLOTS ≡ t → Goes b new (cond t NoneFree (Enters (i * answer_room) (n * answer_room)))
    beyond h true full = enters_none b new board i refl h (eqb-true n SLOTS full)
    beyond h false free = record {
      rising = omega (arith, within);
      fits = omega (arith, most, eqb-false n SLOTS free);
      done = enters_new b new board i refl h (omega (arith, most, eqb-false n SLOTS free));
    }

    by : (low same full : Bool) → ltb i n ≡ low → eqb here (job_of new) ≡ same → eqb n SLOTS ≡ full →
        Goes b new (cond (low && same) (Joins (i * answer_room)) (cond full NoneFree (Enters (i * answer_room) (n * answer_room))))
    by true true full l s f =
        let slot = enters_slot b new board i refl (ltb-true i n l) (eqb-true here (job_of new) s) in
        record { fits = omega (arith, most, ltb-true i n l); ready = slot.ready; done = slot.done }
    by true false full l s f = beyond (inr (eqb-false here (job_of new) s)) full f
    by false same full l s f = beyond (inl (ltb-false i n l)) full f
