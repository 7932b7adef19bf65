use Rattle.std.proofs.Common.{ℕ, ◌≢◌, ◌∙◌, List, ◌+◌, ◌++◌, [], ◌∷◌, refl, ap, length, arith}
use Rattle.fts_disk.specs.Device.{Files}
use Rattle.fts_log.specs.Frame.{payload_of}
use Rattle.fts_log.specs.Log.{magic_of}
use Rattle.fts_log.specs.Record.{IsLog}
use Rattle.fts_log.proofs.Appending.{IsStaged, kept, fits_within, after_write, after_gate, stands_after}
use Rattle.fts_log.proofs.Crashing.{run_write, run_sync, run_gate, run_last}
use Rattle.fts_log.proofs.log.Log.append.Goals as goal

-- all four calls
pub returns-clause-acknowledged : goal.returns-clause-acknowledged
returns-clause-acknowledged g c told entries stands =
    let magic = magic_of c.args.self.now in
    let payload = payload_of c.args.framed.now in
    let fits = fits_within payload _ _ _ c.bytes-bytes.ensures c.if-end-self.false c.args.self.now.limited in
    let written = after_write magic entries payload _ _ _ _ stands.«end» c.bytes-bytes.ensures stands.is_log (c.in_ok-write_at.ensures.written told).this in
    let synced = kept (IsStaged magic entries payload) _ _ (c.sync.ensures.seen told) written in
    let opened = after_gate magic entries payload _ _ _ (omega (arith, stands.«end», c.args.self.now.closed)) fits synced (c.in_ok-write_at-2.ensures.written told).this in
    let is_log = kept (IsLog magic (entries ++ payload ∷ [])) _ _ (c.sync-2.ensures.seen told) opened in
    stands_after entries payload _ _ stands is_log refl refl (λ files may. c.in_ok-sync-2.ensures.durable told files may 0) (ap (λ (bytes : List ℕ). c.args.self.now.«end» + length bytes) c.bytes-bytes.ensures) refl

-- a crash at any moment, by the last call that was made
pub returns-in_err-write_at-clause-any_moment : goal.returns-in_err-write_at-clause-any_moment
returns-in_err-write_at-clause-any_moment g c told entries stands =
    let device = c.args.self.now.device in
    let magic = magic_of c.args.self.now in
    let payload = payload_of c.args.framed.now in
    let now = λ (files : Files) (left : g.D.Disk.left_since device (g.D.Disk.moment device) files). g.met.D.Disk.only_now device files told left in
    run_write g.D.Disk device magic entries payload stands.is_log stands.durable now c.write_at.new.self _ _ stands.«end» (c.write_at.ensures.crash told) (c.write_at.ensures.time told)

pub returns-in_err-sync-clause-any_moment : goal.returns-in_err-sync-clause-any_moment
returns-in_err-sync-clause-any_moment g c told entries stands =
    let device = c.args.self.now.device in
    let magic = magic_of c.args.self.now in
    let payload = payload_of c.args.framed.now in
    let now = λ (files : Files) (left : g.D.Disk.left_since device (g.D.Disk.moment device) files). g.met.D.Disk.only_now device files told left in
    run_sync g.D.Disk device magic entries payload stands.is_log stands.durable now c.write_at.new.self _ _ stands.«end» (c.write_at.ensures.crash told) (c.write_at.ensures.time told) c.sync.new.self (c.sync.ensures.crash told) (c.sync.ensures.time told)

pub returns-in_err-write_at-2-clause-any_moment : goal.returns-in_err-write_at-2-clause-any_moment
returns-in_err-write_at-2-clause-any_moment g c told entries stands =
    let device = c.args.self.now.device in
    let magic = magic_of c.args.self.now in
    let payload = payload_of c.args.framed.now in
    let now = λ (files : Files) (left : g.D.Disk.left_since device (g.D.Disk.moment device) files). g.met.D.Disk.only_now device files told left in
    let fits = fits_within payload _ _ _ c.bytes-bytes.ensures c.if-end-self.false c.args.self.now.limited in
    let written = after_write magic entries payload _ _ _ _ stands.«end» c.bytes-bytes.ensures stands.is_log (c.in_ok-write_at.ensures.written told).this in
    let synced = kept (IsStaged magic entries payload) _ _ (c.sync.ensures.seen told) written in
    let others = λ (file : ℕ) (apart : file ≢ 0). ap (λ (files : Files). files file) (c.sync.ensures.seen told) ∙ (c.in_ok-write_at.ensures.written told).others file apart in
    run_gate g.D.Disk device magic entries payload stands.is_log stands.durable now c.write_at.new.self _ _ stands.«end» (c.write_at.ensures.crash told) (c.write_at.ensures.time told) c.sync.new.self (c.sync.ensures.crash told) (c.sync.ensures.time told)
    c.write_at-2.new.self _ (omega (arith, stands.«end», c.args.self.now.closed)) fits (c.in_ok-sync.ensures.durable told) synced others (c.write_at-2.ensures.crash told) (c.write_at-2.ensures.time told)

pub returns-in_err-sync-2-clause-any_moment : goal.returns-in_err-sync-2-clause-any_moment
returns-in_err-sync-2-clause-any_moment g c told entries stands =
    let device = c.args.self.now.device in
    let magic = magic_of c.args.self.now in
    let payload = payload_of c.args.framed.now in
    let now = λ (files : Files) (left : g.D.Disk.left_since device (g.D.Disk.moment device) files). g.met.D.Disk.only_now device files told left in
    let fits = fits_within payload _ _ _ c.bytes-bytes.ensures c.if-end-self.false c.args.self.now.limited in
    let written = after_write magic entries payload _ _ _ _ stands.«end» c.bytes-bytes.ensures stands.is_log (c.in_ok-write_at.ensures.written told).this in
    let synced = kept (IsStaged magic entries payload) _ _ (c.sync.ensures.seen told) written in
    let others = λ (file : ℕ) (apart : file ≢ 0). ap (λ (files : Files). files file) (c.sync.ensures.seen told) ∙ (c.in_ok-write_at.ensures.written told).others file apart in
    run_last g.D.Disk device magic entries payload stands.is_log stands.durable now c.write_at.new.self _ _ stands.«end» (c.write_at.ensures.crash told) (c.write_at.ensures.time told) c.sync.new.self (c.sync.ensures.crash told) (c.sync.ensures.time told)
    c.write_at-2.new.self _ (omega (arith, stands.«end», c.args.self.now.closed)) fits (c.in_ok-sync.ensures.durable told) synced others (c.write_at-2.ensures.crash told) (c.write_at-2.ensures.time told) c.sync-2.new.self (c.sync-2.ensures.crash told) (c.sync-2.ensures.time told)

pub returns-clause-any_moment : goal.returns-clause-any_moment
returns-clause-any_moment g c told entries stands =
    let device = c.args.self.now.device in
    let magic = magic_of c.args.self.now in
    let payload = payload_of c.args.framed.now in
    let now = λ (files : Files) (left : g.D.Disk.left_since device (g.D.Disk.moment device) files). g.met.D.Disk.only_now device files told left in
    let fits = fits_within payload _ _ _ c.bytes-bytes.ensures c.if-end-self.false c.args.self.now.limited in
    let written = after_write magic entries payload _ _ _ _ stands.«end» c.bytes-bytes.ensures stands.is_log (c.in_ok-write_at.ensures.written told).this in
    let synced = kept (IsStaged magic entries payload) _ _ (c.sync.ensures.seen told) written in
    let others = λ (file : ℕ) (apart : file ≢ 0). ap (λ (files : Files). files file) (c.sync.ensures.seen told) ∙ (c.in_ok-write_at.ensures.written told).others file apart in
    run_last g.D.Disk device magic entries payload stands.is_log stands.durable now c.write_at.new.self _ _ stands.«end» (c.write_at.ensures.crash told) (c.write_at.ensures.time told) c.sync.new.self (c.sync.ensures.crash told) (c.sync.ensures.time told)
    c.write_at-2.new.self _ (omega (arith, stands.«end», c.args.self.now.closed)) fits (c.in_ok-sync.ensures.durable told) synced others (c.write_at-2.ensures.crash told) (c.write_at-2.ensures.time told) c.sync-2.new.self (c.sync-2.ensures.crash told) (c.sync-2.ensures.time told)
