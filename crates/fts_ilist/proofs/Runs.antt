-- Nodes that lie one behind the other in one run of bytes.
use Rattle.std.proofs.Common.{◌≡◌, ℕ, zero, suc, ◌-◌, ◌≤◌, ◌<◌, ◌^◌, List, [], ◌∷◌, ◌++◌, Some, slice_get, length, take, drop, refl, sym, ap, subst, ◌∙◌, append_assoc, arith}
use Rattle.std.proofs.lemmas.List.{take-append-le, drop-append-le, length-append}
use Rattle.std.proofs.Math.Seq.{take-length, drop-length, drop-append_seam}
use Rattle.fts_ilist.specs.Number.{number_bytes}
use Rattle.fts_ilist.specs.Spelling.{last_id, id_at_end}
use Rattle.fts_ilist.specs.Reading.{postings_in}
use Rattle.fts_ilist.specs.Node.{Docs, last_of}
use Rattle.fts_ilist.specs.Packing.{node_size}
use Rattle.fts_ilist.specs.NodeList.{IsLent, node_bytes, front_value, number_in, behind_number, first_bytes, behind_node, nodes_at, BeginsWithNode, IsRun, last_size, run_room}
use Rattle.fts_ilist.proofs.Groups.{reads_number}
use Rattle.fts_ilist.proofs.Codec.{short_fits}

-- there are as many nodes as are counted
pub nodes_count : (count : ℕ) (run : List ℕ) → length (nodes_at count run) ≡ count
nodes_count zero run = refl
nodes_count (suc more) run = ap suc (nodes_count more (behind_node run))

-- ---- the number at the front

pub number_reads : (n : ℕ) (rest : List ℕ) → number_in (number_bytes n ++ rest) ≡ n
number_reads n rest = ap front_value (reads_number n rest)

pub behind_reads : (n : ℕ) (rest : List ℕ) → behind_number (number_bytes n ++ rest) ≡ rest
behind_reads n rest =
    ap (λ k. drop (length (number_bytes k)) (number_bytes n ++ rest)) (number_reads n rest)
    ∙ drop-append_seam (number_bytes n) rest

-- where bytes begin with a number's spelling, the number and the rest are these
pub number_is : (bytes : List ℕ) (n at : ℕ) → bytes ≡ number_bytes n ++ drop at bytes → number_in bytes ≡ n
number_is bytes n at found = ap number_in found ∙ number_reads n (drop at bytes)

pub rest_is : (bytes : List ℕ) (n at : ℕ) → bytes ≡ number_bytes n ++ drop at bytes → behind_number bytes ≡ drop at bytes
rest_is bytes n at found = ap behind_number found ∙ behind_reads n (drop at bytes)

-- ---- the first node

module _ (run : List ℕ) (begins : BeginsWithNode run) where
  abbrev behind : List ℕ
  behind = number_bytes begins.count ++ begins.rest

  pub size_read : number_in run ≡ begins.size
  size_read = ap number_in begins.parts ∙ number_reads begins.size behind

  pub behind_size : behind_number run ≡ behind
  behind_size = ap behind_number begins.parts ∙ behind_reads begins.size behind

  pub rest_read : behind_number (behind_number run) ≡ begins.rest
  rest_read = ap behind_number behind_size ∙ behind_reads begins.count begins.rest

  pub first_is : first_bytes run ≡ take begins.size begins.rest
  first_is = ap (λ n. take n (behind_number (behind_number run))) size_read ∙ ap (take begins.size) rest_read

  pub behind_is : behind_node run ≡ drop begins.size begins.rest
  behind_is = ap (λ n. drop n (behind_number (behind_number run))) size_read ∙ ap (drop begins.size) rest_read

  -- it stays the first where more comes behind the run
  abbrev pub begins_more : (more : List ℕ) → BeginsWithNode (run ++ more)
  begins_more more = record {
    size = begins.size;
    count = begins.count;
    rest = begins.rest ++ more;
    small = begins.small;
    few = begins.few;
    parts = ap (λ w. w ++ more) begins.parts
        ∙ append_assoc (number_bytes begins.size) behind more
        ∙ ap (λ w. number_bytes begins.size ++ w) (append_assoc (number_bytes begins.count) begins.rest more);
    within = omega (arith, begins.within, length-append begins.rest more);
    node = subst (IsLent begins.count) (sym (take-append-le begins.size begins.rest more begins.within)) begins.node;
  }

-- it is read: a number, and another one behind it
module _ (run : List ℕ) (begins : BeginsWithNode run) (size at : ℕ) (sized : run ≡ number_bytes size ++ drop at run) where
  pub second_is : (second : List ℕ) → second ≡ drop at run → second ≡ number_bytes begins.count ++ begins.rest
  second_is second cut = cut ∙ sym (rest_is run size at sized) ∙ behind_size run begins

  pub is_size : size ≡ begins.size
  is_size = sym (number_is run size at sized) ∙ size_read run begins

  module _ (second : List ℕ) (cut : second ≡ drop at run) (count more : ℕ) (counted : second ≡ number_bytes count ++ drop more second) where
    pub is_count : count ≡ begins.count
    is_count = sym (number_is second count more counted) ∙ ap number_in (second_is second cut) ∙ number_reads begins.count begins.rest

    pub is_rest : drop more second ≡ begins.rest
    is_rest = sym (rest_is second count more counted) ∙ ap behind_number (second_is second cut) ∙ behind_reads begins.count begins.rest

module _ (run : List ℕ) (begins : BeginsWithNode run) (more : List ℕ) where
  pub first_more : first_bytes (run ++ more) ≡ first_bytes run
  first_more =
      first_is (run ++ more) (begins_more run begins more)
      ∙ take-append-le begins.size begins.rest more begins.within
      ∙ sym (first_is run begins)

  pub behind_more : behind_node (run ++ more) ≡ behind_node run ++ more
  behind_more =
      behind_is (run ++ more) (begins_more run begins more)
      ∙ drop-append-le begins.size begins.rest more begins.within
      ∙ ap (λ w. w ++ more) (sym (behind_is run begins))

-- ---- one more node behind a run

module _ (count : ℕ) (bytes : List ℕ) (small : length bytes < 2 ^ 64) (few : count < 2 ^ 64) (node : IsLent count bytes) where
  abbrev alone : List ℕ
  alone = node_bytes count bytes

  abbrev begins_alone : BeginsWithNode alone
  begins_alone = record {
    size = length bytes;
    count = count;
    rest = bytes;
    small = small;
    few = few;
    parts = refl;
    within = omega arith;
    node = subst (IsLent count) (sym (take-length bytes)) node;
  }

  first_alone : first_bytes alone ≡ bytes
  first_alone = first_is alone begins_alone ∙ take-length bytes

  behind_alone : behind_node alone ≡ []
  behind_alone = behind_is alone begins_alone ∙ drop-length bytes

  pub run_more : (n : ℕ) (run : List ℕ) → IsRun n run → IsRun (suc n) (run ++ alone)
  run_more zero run are = subst (λ w. IsRun 1 (w ++ alone)) (sym are) (begins_alone, behind_alone)
  run_more (suc n) run are = (
    begins_more run are.0 alone,
    subst (IsRun (suc n)) (sym (behind_more run are.0 alone)) (run_more n (behind_node run) are.1),
  )

  pub nodes_more : (n : ℕ) (run : List ℕ) → IsRun n run → nodes_at (suc n) (run ++ alone) ≡ nodes_at n run ++ postings_in 0 bytes ∷ []
  nodes_more zero run are =
      ap (λ w. nodes_at 1 (w ++ alone)) are
      ∙ ap (λ (b : List ℕ). postings_in 0 b ∷ []) first_alone
  nodes_more (suc n) run are =
      ap (λ (b : List ℕ). postings_in 0 b ∷ nodes_at (suc n) (behind_node (run ++ alone))) (first_more run are.0 alone)
      ∙ ap (λ b. postings_in 0 (first_bytes run) ∷ nodes_at (suc n) b) (behind_more run are.0 alone)
      ∙ ap (λ (ns : List Docs). postings_in 0 (first_bytes run) ∷ ns) (nodes_more n (behind_node run) are.1)

-- and it takes no more than its room
pub head_within : (count : ℕ) (bytes : List ℕ) → length bytes < 2 ^ 32 → count < 2 ^ 32 → length (node_bytes count bytes) ≤ run_room 1 (length bytes)
head_within count bytes small few =
    omega (
      arith,
      short_fits (length bytes) small,
      short_fits count few,
      length-append (number_bytes (length bytes)) (number_bytes count ++ bytes),
      length-append (number_bytes count) bytes,
    )

-- ---- the last node

pub last_size-push : (before : ℕ) (ns : List Docs) (docs : Docs) → last_size before (ns ++ docs ∷ []) ≡ node_size docs
last_size-push before [] docs = refl
last_size-push before (n ∷ ns) docs = last_size-push (node_size n) ns docs

-- nodes end with one, of which the last id and the size are known
pub record EndsWith (ns : List Docs) (last size : ℕ) : Type 0 where
  pub node : Docs
  pub is_last : slice_get ns (length ns - 1) ≡ Some node
  pub last_is : last ≡ last_id node
  pub size_is : size ≡ node_size node

pub ends_with : (before size : ℕ) (n : Docs) (ns : List Docs) → EndsWith (n ∷ ns) (last_of before (n ∷ ns)) (last_size size (n ∷ ns))
ends_with before size n [] = record { node = n; is_last = refl; last_is = refl; size_is = refl }
ends_with before size n (k ∷ ks) =
    let rest = ends_with (id_at_end 0 n) (node_size n) k ks in
    record {
      node = rest.node;
      is_last = ap (slice_get (n ∷ (k ∷ ks))) (let one : length (n ∷ (k ∷ ks)) - 1 ≡ suc (length (k ∷ ks) - 1) = omega arith in one) ∙ rest.is_last;
      last_is = rest.last_is;
      size_is = rest.size_is;
    }

pub ends_of : (ns : List Docs) (last size : ℕ) → (length ns ≡ 0 → ⊥) → last ≡ last_of 0 ns → size ≡ last_size 0 ns → EndsWith ns last size
ends_of [] last size some l s = absurd (some refl)
ends_of (n ∷ ns) last size some l s =
    let told = ends_with 0 0 n ns in
    record { node = told.node; is_last = told.is_last; last_is = l ∙ told.last_is; size_is = s ∙ told.size_is }
