-- What holds of a file that Open accepts.
use Rattle.std.specs.Prelude.{ℕ, suc, ◌+◌, ◌*◌, ◌≤◌, ◌<◌, ◌≡◌, List, true, length}
use Rattle.rules.specs.Rows.{rises}
use Rattle.tables.specs.File.{tables_of, entry_place, entry_of, body_length, end_before, body_of, row_of}

-- the bytes are the body of a table with n states and m rows
pub record TableBody (n m : ℕ) (body : List ℕ) : Type 0 where
  pub some_state : 1 ≤ n
  pub few_states : n ≤ 64
  pub few_rows : m ≤ 512
  pub four_bytes : length body ≡ 4 * m
  pub from_low : (j : ℕ) → j < m → 1 ≤ (row_of body j).from
  pub from_high : (j : ℕ) → j < m → (row_of body j).from < n
  pub target_high : (j : ℕ) → j < m → (row_of body j).target < n
  pub rising : (j : ℕ) → suc j < m → rises (row_of body j) (row_of body (suc j)) ≡ true

-- the bytes are a file of k tables
pub record Accepted (s : List ℕ) (k : ℕ) : Type 0 where
  pub count : tables_of s ≡ k
  pub some_table : 1 ≤ k
  pub few_tables : k ≤ 16
  pub kind_low : (i : ℕ) → i < k → 1 ≤ (entry_of s i).kind
  pub kind_high : (i : ℕ) → i < k → (entry_of s i).kind ≤ 2
  pub back_to_back : (i : ℕ) → i < k → (entry_of s i).offset ≡ end_before s i
  pub whole : length s ≡ end_before s k
  pub table : (i : ℕ) → i < k → TableBody (entry_of s i).states (entry_of s i).rows (body_of s i)

-- what follows: the contents of the k tables and each of their bodies are in the file, which is at most 32,866 bytes long
pub record Laid (s : List ℕ) (k : ℕ) : Type 0 where
  pub contents : entry_place k ≤ length s
  pub within : (i : ℕ) → i < k → (entry_of s i).offset + body_length (entry_of s i) ≤ length s
  pub short : length s ≤ 32866
